-- What a porter does with what came in at its door.
use Rattle.std.specs.Prelude.{◌≡◌, ◌⊎◌, ⊤, ℕ, ◌≤◌, Bool, true, false, List, [], ◌∷◌, ◌++◌, length, Result, Ok, Err}
use Rattle.pt_signal.specs.declared.pid.Pid.{Pid}
use Rattle.pt_shard.specs.declared.fault.Fault.TheVariants.{NoProc}
use Rattle.pt_desk.specs.DeskState.{DeskState}
use Rattle.pt_behaviour.specs.declared.call_fault.CallFault.{CallFault}
use Rattle.pt_behaviour.specs.declared.call_fault.CallFault.TheVariants.{Unknown, Refused}
use Rattle.pt_behaviour.specs.Telling.{SendsTo}
use Rattle.pt_epochs.specs.declared.door.Post.{Post}

-- the desk was asked to send the message of `me`, and answered so
abbrev pub PorterTells : Pid → Post → DeskState → Result ⊤ CallFault → DeskState → Type 0
PorterTells me post d answer e = SendsTo me post.to post.body d answer e

-- it was sent, or its receiver is not known, or seen to have ended
abbrev pub IsDone : Result ⊤ CallFault → Type 0
IsDone answer = (answer ≡ Ok tt) ⊎ (answer ≡ Err Unknown) ⊎ (answer ≡ Err (Refused NoProc))

-- these were sent on, in order
abbrev pub SendsOn : Pid → List Post → DeskState → DeskState → Type 0
SendsOn me [] d e = e ≡ d
SendsOn me (post ∷ posts) d e =
    (mid : DeskState) × (answer : Result ⊤ CallFault) × PorterTells me post d answer mid × IsDone answer × SendsOn me posts mid e

-- nothing was sent on: none waits, or the desk refused the first that does for another cause, and it stays
abbrev pub KeepsFront : Pid → List Post → DeskState → DeskState → Type 0
KeepsFront me [] d e = e ≡ d
KeepsFront me (post ∷ waits) d e = (answer : Result ⊤ CallFault) × PorterTells me post d answer e × (IsDone answer → ⊥)

-- the first that waits is taken out and sent on, or stays; of what was taken out before and after, and what waits then
abbrev pub BringsFirst : Pid → List Post → DeskState → Bool → List Post → List Post → DeskState → Type 0
BringsFirst me before d true after waits e =
    (post : Post) × (after ≡ before ++ post ∷ []) × SendsOn me (post ∷ []) d e
BringsFirst me before d false after waits e = (after ≡ before) × KeepsFront me waits d e

-- What was taken out of the way in, in its order, was sent on, each once, and nothing else was: as many as it may send
-- on in a step, or fewer, if none waits then or the desk refuses the first that does. What is refused for want of memory
-- or stamps, or since `me` has ended, stays in front of what waits.
pub record Brings (me : Pid) (most : ℕ) (before : List Post) (d : DeskState) (after waits : List Post) (e : DeskState)
    : Type 0 where
  pub posts : List Post
  pub taken : after ≡ before ++ posts
  pub few : length posts ≤ most
  pub mid : DeskState
  pub sends : SendsOn me posts d mid
  pub keeps : ((length posts ≡ most) × (e ≡ mid)) ⊎ KeepsFront me waits mid e
