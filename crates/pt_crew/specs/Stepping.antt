-- A step that is taken from outside, and what the outside says of a process.
use Rattle.std.specs.Prelude.{◌≡◌, ◌⊎◌, Bool, true, false, ◌||◌, List, [], ◌∷◌, ◌++◌, Option, Some, None, Result, Ok, Err}
use Rattle.pt_signal.specs.declared.pid.Pid.{Pid}
use Rattle.pt_shard.specs.declared.fault.Fault.{Fault}
use Rattle.pt_shard.specs.declared.fault.Fault.TheVariants.{Memory}
use Rattle.pt_shard.specs.ShardState.{ShardState, lives}
use Rattle.pt_shard.specs.Calls.{BearsChild}
use Rattle.pt_behaviour.specs.declared.behaviour.Next.{Next}
use Rattle.pt_behaviour.specs.declared.behaviour.Next.TheVariants.{Running}
use Rattle.pt_behaviour.specs.declared.births.Role.{Role}
use Rattle.pt_crew.specs.declared.crew.Crew.{Crew}
use Rattle.pt_crew.specs.Waking.{IsAwake, AreRung}
use Rattle.pt_behaviour.specs.Behaving.{Answers}
use Rattle.pt_crew.specs.Visiting.{AreSame, AreWith, VisitsOne}
use Rattle.pt_crew.specs.Crews.{Attends, EntersAll, IsSame, KeepsRest, KnowsDesk, are_any, left, members, queue, read_events, roles, rounds_asked, scene, time_of, waiting, was_refused}

-- others stand behind the queue
abbrev pub QueueIsLonger : List Pid → List Pid → Type 0
QueueIsLonger old new = (more : List Pid) × (new ≡ old ++ more)

-- What a step begins with: nobody has left in it, and no call was refused. Each process that has something to do stands in
-- the queue, and so does each one that waits until a time which has come.
pub record BeginsStep {B : Type 0} (old : Crew B) (d : ShardState) (new : Crew B) : Type 0 where
  pub left : left new ≡ []
  pub refused : was_refused new ≡ false
  pub first : Attends old d → IsAwake (members new) (queue new) d
  pub due : Attends old d → AreRung (time_of old) (members new) (queue new)
  pub roles : AreSame (roles old) (roles new)
  pub longer : QueueIsLonger (queue old) (queue new)
  pub waiting : waiting new ≡ waiting old
  pub rounds : rounds_asked new ≡ rounds_asked old
  pub time : time_of new ≡ time_of old

-- the first of the queue is come to, and stands behind it then or nowhere; where nobody stands in it nothing has changed
abbrev pub Serves : {B : Type 0} → Answers B → List Pid → Crew B → ShardState → Crew B → ShardState → Type 0
Serves answers [] old d new e = IsSame old new × (e ≡ d)
Serves answers (p ∷ rest) old d new e =
    (back : List Pid) × VisitsOne answers p (scene [] old d) (scene back new e) × (queue new ≡ rest ++ back)

-- What a step ends with: those that were born enter, all of them unless memory was refused; and whoever has something to
-- do stands in the queue.
pub record EndsStep {B : Type 0} (old : Crew B) (d : ShardState) (new : Crew B) : Type 0 where
  pub entered : List (Role B)
  pub born : waiting old ≡ entered ++ waiting new
  pub enters : EntersAll (lives d) entered (roles old, left old) (roles new, left new)
  pub told : was_refused new ≡ (was_refused old || are_any (waiting new))
  pub awake : Attends old d → IsAwake (members new) (queue new) d
  pub longer : QueueIsLonger (queue old) (queue new)
  pub rounds : rounds_asked new ≡ rounds_asked old
  pub time : time_of new ≡ time_of old

-- who stands in front
abbrev pub first_of : List Pid → Option Pid
first_of [] = None
first_of (p ∷ ps) = Some p

abbrev pub runs : Next → Bool
runs Running = true
runs _ = false

-- it was handed something, and the outside has not said yet what it does next
abbrev pub is_running : {B : Type 0} → Option (B × Next) → Bool
is_running None = false
is_running (Some r) = runs r.1

-- the outside has said what p does next, which was running
pub record IsAnswered {B : Type 0} (p : Pid) (next : Next) (old new : Crew B) : Type 0 where
  pub behaviour : B
  pub ran : roles old p ≡ Some (behaviour, Running)
  pub does : AreWith p (Some (behaviour, next)) (roles old) (roles new)
  pub longer : QueueIsLonger (queue old) (queue new)
  pub read : read_events new ≡ read_events old
  pub rest : KeepsRest old new

-- A child is born and enters the crew, behind its queue, where no process of the crew was its own; or nothing has
-- changed, where the desk refused the birth or there was no memory.
abbrev pub EntersChild : {B : Type 0} → Pid → Bool → B → Next → Crew B → ShardState → Result Pid Fault → Crew B
    → ShardState → Type 0
EntersChild parent linked b first old d (Ok p) new e =
    BearsChild parent linked d (Ok p) e × AreWith p (Some (b, first)) (roles old) (roles new)
    × (KnowsDesk old d → queue new ≡ queue old ++ p ∷ []) × QueueIsLonger (queue old) (queue new) × KeepsRest old new
EntersChild parent linked b first old d (Err f) new e =
    (BearsChild parent linked d (Err f) e ⊎ ((f ≡ Memory) × (e ≡ d))) × IsSame old new
