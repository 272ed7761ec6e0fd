-- What it is to come to a process of a crew: its end is asked for, or one item that its pick fits, which is handed to
-- its behaviour, or none where its time has come.
use Rattle.std.specs.Prelude.{◌≡◌, ◌⊎◌, ℕ, nat_le, cond, Bool, true, false, ◌||◌, List, [], ◌∷◌, ◌++◌, Option, Some, None, MatchBool, Result, Ok, Err}
use Rattle.pt_signal.specs.declared.pid.Pid.{Pid}
use Rattle.pt_signal.specs.declared.item.Item.{Item}
use Rattle.pt_signal.specs.declared.item.Pick.{Pick}
use Rattle.pt_signal.specs.Values.{same_pid}
use Rattle.pt_events.specs.declared.event.Event.TheVariants.{Left}
use Rattle.pt_shard.specs.declared.fault.Fault.{Fault}
use Rattle.pt_shard.specs.declared.fault.Fault.TheVariants.{Gone}
use Rattle.pt_events.specs.History.{Phase, living}
use Rattle.pt_shard.specs.ShardState.{ShardState, lives, phase_of}
use Rattle.pt_shard.specs.Calls.{Calls, take_event, first_match}
use Rattle.pt_shard.specs.Extends.{Extends}
use Rattle.pt_behaviour.specs.declared.behaviour.Next.{Next}
use Rattle.pt_behaviour.specs.declared.behaviour.Next.TheVariants.{Wait, WaitUntil, Proceed, Running, Stop}
use Rattle.pt_behaviour.specs.declared.births.Role.{Role}
use Rattle.pt_behaviour.specs.Births.{bore}
use Rattle.pt_behaviour.specs.Behaving.{AnswersNow, Answers, takes}
use Rattle.pt_crew.specs.declared.crew.Tended.{Tended}
use Rattle.pt_crew.specs.declared.crew.Tended.TheVariants.{Idle, Again, Done, Refused, Gone as Ended}

-- of each process of a crew its behaviour, and what it does next
abbrev pub Roles : Type 0 → Type 0
Roles B = Pid → Option (B × Next)

abbrev pub AreSame : {B : Type 0} → Roles B → Roles B → Type 0
AreSame old new = (q : Pid) → new q ≡ old q

-- p has this role, or none, and all others stay
abbrev pub AreWith : {B : Type 0} → Pid → Option (B × Next) → Roles B → Roles B → Type 0
AreWith p role old new = (q : Pid) → new q ≡ cond (same_pid p q) role (old q)

-- a crew in a step as its callers see it, with its desk
pub record Scene (B : Type 0) : Type 0 where
  pub roles : Roles B
  -- who stands behind the queue, to be come to in the next round
  pub again : List Pid
  -- who was born and waits to enter
  pub born : List (Role B)
  -- who left in this step
  pub left : List (Role B)
  -- whether a call was refused in this step
  pub refused : Bool
  -- what time it is in this step
  pub time : ℕ
  pub desk : ShardState

-- an end was asked for: the process leaves the crew, unless the desk refused for want of memory or stamps
abbrev pub EndsAs : {B : Type 0} → B × Next → Result (Unit {0}) Fault → Tended → Option (B × Next) → Type 0
EndsAs role (Ok done) t now = (t ≡ Ended) × (now ≡ None)
EndsAs role (Err Gone) t now = (t ≡ Ended) × (now ≡ None)
EndsAs role (Err f) t now = (t ≡ Refused) × (now ≡ Some role)

-- who was handed something and waits now with an empty mailbox leaves the queue; anyone else goes behind it
abbrev pub handed_by : List Item → Tended
handed_by [] = Done
handed_by (i ∷ items) = Again

abbrev pub handed_as : Next → Phase → Tended
handed_as (Wait k) (living s) = handed_by s.waiting
handed_as Running (living s) = Done
handed_as next phase = Again

-- the item, or none, is handed to the behaviour, which takes none itself, and bears these
pub record HandsTo {B : Type 0} (answers : AnswersNow B) (p : Pid) (b : B) (item : Option Item) (d : ShardState)
    (t : Tended) (now : Option (B × Next)) (e : ShardState) (births : List (Role B)) : Type 0 where
  pub behaviour : B
  pub next : Next
  pub answer : answers b d p item next behaviour e births
  pub tended : t ≡ handed_as next (phase_of e p)
  pub now_is : now ≡ Some (behaviour, next)
  pub takes : takes e.journal ≡ takes d.journal
  pub extends : Extends d e

-- a process that had ended leaves the crew
abbrev pub LeavesAs : {B : Type 0} → ShardState → Tended → Option (B × Next) → ShardState → Type 0
LeavesAs d t now e = (t ≡ Ended) × (now ≡ None) × (e ≡ d)

-- nothing has changed, and that is what came of it
abbrev pub StaysAs : {B : Type 0} → Tended → B × Next → ShardState → Tended → Option (B × Next) → ShardState → Type 0
StaysAs came role d t now e = (t ≡ came) × (now ≡ Some role) × (e ≡ d)

-- An item was asked for. One that was taken is handed over. If there is none, none is handed over where the time is over,
-- and else all stays. A refusal for want of memory or stamps leaves all as it is.
abbrev pub TakesAs : {B : Type 0} → AnswersNow B → Pid → B × Next → Bool → ShardState → Result (Option Item) Fault → Tended
    → Option (B × Next) → ShardState → List (Role B) → Type 0
TakesAs answers p role over d (Ok None) t now e births =
    MatchBool over (HandsTo answers p role.0 None d t now e births) (StaysAs Idle role d t now e)
TakesAs answers p role over d (Ok (Some item)) t now e births = HandsTo answers p role.0 (Some item) d t now e births
TakesAs answers p role over d (Err Gone) t now e births = LeavesAs d t now e
TakesAs answers p role over d (Err f) t now e births = StaysAs Refused role d t now e

-- the first item that the pick fits is asked for
abbrev pub AsksFor : {B : Type 0} → AnswersNow B → Pid → B × Next → Pick → Bool → ShardState → Tended → Option (B × Next)
    → ShardState → List (Role B) → Type 0
AsksFor answers p role pick over d t now e births =
    (result : Result (Option Item) Fault) × (mid : ShardState)
    × Calls p (take_event d p pick) (first_match d p pick) d result mid
    × TakesAs answers p role over mid result t now e births

-- the process p, which does this next, is seen to at that time, and that comes of it
abbrev pub SeesTo : {B : Type 0} → Answers B → ℕ → Pid → B → Next → ShardState → Tended → Option (B × Next)
    → ShardState → List (Role B) → Type 0
SeesTo answers time p b (Stop reason) d t now e births =
    (result : Result (Unit {0}) Fault) × Calls p (Some (Left p reason)) (tt {0}) d result e
    × EndsAs (b, Stop reason) result t now
SeesTo answers time p b Proceed d t now e births =
    MatchBool (lives d p) (HandsTo (answers time) p b None d t now e births) (LeavesAs d t now e)
SeesTo answers time p b Running d t now e births =
    MatchBool (lives d p) (StaysAs Idle (b, Running) d t now e) (LeavesAs d t now e)
SeesTo answers time p b (Wait pick) d t now e births =
    AsksFor (answers time) p (b, Wait pick) pick false d t now e births
SeesTo answers time p b (WaitUntil pick at) d t now e births =
    AsksFor (answers time) p (b, WaitUntil pick at) pick (nat_le at time) d t now e births

-- Nothing is done for one that is not of the crew. Nor is it where there is no memory to keep its behaviour if it
-- leaves, or for the timer of one that waits until a time.
abbrev pub ComesTo : {B : Type 0} → Answers B → ℕ → Pid → Option (B × Next) → ShardState → Tended → Option (B × Next)
    → ShardState → List (Role B) → Type 0
ComesTo answers time p None d t now e births = (t ≡ Idle) × (now ≡ None) × (e ≡ d)
ComesTo answers time p (Some role) d t now e births =
    StaysAs Refused role d t now e ⊎ SeesTo answers time p role.0 role.1 d t now e births

-- whoever was handed something and may have more to do, or was refused, goes behind the queue
abbrev pub goes_behind : Tended → Bool
goes_behind Again = true
goes_behind Refused = true
goes_behind _ = false

abbrev pub again_as : Pid → Tended → List Pid
again_as p t = cond (goes_behind t) (p ∷ []) []

-- whoever has ended leaves, as it was
abbrev pub leaves_crew : Tended → Bool
leaves_crew Ended = true
leaves_crew _ = false

abbrev pub leaver : {B : Type 0} → Pid → Option (B × Next) → List (Role B)
leaver p None = []
leaver p (Some role) = record { pid = p; behaviour = role.0; next = role.1 } ∷ []

abbrev pub left_as : {B : Type 0} → Pid → Option (B × Next) → Tended → List (Role B)
left_as p role t = cond (leaves_crew t) (leaver p role) []

abbrev pub is_refused : Tended → Bool
is_refused Refused = true
is_refused _ = false

-- only who is handed an item, or proceeds, bears children, which wait behind those who wait
abbrev pub BearsChildren : {B : Type 0} → Tended → List (Role B) → List (Role B) → Type 0
BearsChildren {B} Again old new = (bore : List (Role B)) × (new ≡ old ++ bore)
BearsChildren {B} Done old new = (bore : List (Role B)) × (new ≡ old ++ bore)
BearsChildren Idle old new = new ≡ old
BearsChildren Refused old new = new ≡ old
BearsChildren Ended old new = new ≡ old

-- p is come to, and all others stay
pub record VisitsOne {B : Type 0} (answers : Answers B) (p : Pid) (old new : Scene B) : Type 0 where
  pub tended : Tended
  pub comes : ComesTo answers old.time p (old.roles p) old.desk tended (new.roles p) new.desk (bore old.born new.born)
  pub others : AreWith p (new.roles p) old.roles new.roles
  pub again : new.again ≡ old.again ++ again_as p tended
  pub born : BearsChildren tended old.born new.born
  pub left : new.left ≡ old.left ++ left_as p (old.roles p) tended
  pub refused : new.refused ≡ (old.refused || is_refused tended)
  pub time : new.time ≡ old.time

-- so these, one after the other
abbrev pub Visits : {B : Type 0} → Answers B → List Pid → Scene B → Scene B → Type 0
Visits answers [] old new = new ≡ old
Visits {B} answers (p ∷ ps) old new = (mid : Scene B) × VisitsOne answers p old mid × Visits answers ps mid new
