-- What the supervisors of schedulers uphold over the pauses of their node.
use Rattle.std.specs.Prelude.{◌≡◌, ℕ, ◌<◌, List, ◌++◌, length, slice_index_or}
use Rattle.pt_events.specs.declared.event.Stamped.{Stamped}
use Rattle.pt_events.specs.History.{Past}
use Rattle.pt_events.specs.Journal.{IsMerge, events}
use Rattle.pt_gathered.specs.Gathered.{GatheredState, IsGathered, journals}
use Rattle.pt_gathered.specs.Settling.{Settles}
use Rattle.pt_desk.specs.DeskState.{DeskState}
use Rattle.pt_node.specs.Gathering.{Gathers}
use Rattle.pt_node.specs.Pasts.{GoOnFrom}
use Rattle.pt_node.specs.Resuming.{Resumes}
use Rattle.pt_scheduler.specs.declared.scheduler.Scheduler.{Scheduler}
use Rattle.pt_scheduler_laws.specs.Quieting.{AllSchedulersUphold}
use Rattle.pt_scheduler.specs.Scheduling.{SchedulerGoesOn}

-- each scheduler goes on with this history
pub record EachSchedulerGoesOn (merged : List Stamped) (schedulers later : List Scheduler) : Type 0 where
  pub count : length later ≡ length schedulers
  pub each : (d : ℕ) (t : Scheduler) → d < length schedulers
      → SchedulerGoesOn merged (slice_index_or schedulers d t) (slice_index_or later d t)

-- A node is gathered, settled and resumed, and then each of its schedulers goes on with the history: these events, in one
-- of the orders in which the journals can be merged.
pub record SchedulersPause (merged : List Stamped) (desks : List DeskState) (schedulers : List Scheduler)
    (new : List DeskState) (later : List Scheduler) : Type 0 where
  pub gathered : GatheredState
  pub gathers : Gathers desks gathered
  pub node : IsGathered gathered
  pub settled : GatheredState
  pub settles : Settles gathered settled
  pub settled_node : IsGathered settled
  pub merge : IsMerge (journals settled) merged
  pub resumes : Resumes settled new
  pub begins : EachSchedulerGoesOn merged schedulers later

-- what supervisors uphold they uphold behind it, and what happened is then before the journals
abbrev pub SchedulerPausesHold : Type 0
SchedulerPausesHold =
    (past : Past) (merged : List Stamped) (desks new : List DeskState) (schedulers later : List Scheduler)
    → SchedulersPause merged desks schedulers new later → AllSchedulersUphold past schedulers desks → GoOnFrom past desks
    → AllSchedulersUphold (events merged ++ past) later new × GoOnFrom (events merged ++ past) new
