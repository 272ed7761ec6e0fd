-- The schedulers of a node that is still: on each of its desks each child that is to live does.
use Rattle.std.specs.Prelude.{◌≡◌, ℕ, ◌<◌, true, List, length, map, slice_index_or}
use Rattle.pt_events.specs.History.{Past}
use Rattle.pt_desk.specs.DeskState.{DeskState}
use Rattle.pt_gathered.specs.Gathered.{GatheredState, IsGathered}
use Rattle.pt_workers.specs.Desks.{all_shards}
use Rattle.pt_crew.specs.Running.{is_idle}
use Rattle.pt_pauses.specs.Gathering.{AllChildrenLive}
use Rattle.pt_pauses.specs.Still.{IsStillNode}
use Rattle.pt_scheduler.specs.declared.scheduler.Scheduler.{Scheduler}
use Rattle.pt_scheduler.specs.Members.{boss_part}
use Rattle.pt_scheduler.specs.Scheduling.{SchedulerAttends, SchedulerUpholds, crew_of}

-- each scheduler is that of the desk at its place, and its supervisors uphold what they promise: each call of a scheduler
-- keeps both
pub record AllSchedulersUphold (past : Past) (schedulers : List Scheduler) (desks : List DeskState) : Type 0 where
  pub count : length schedulers ≡ length desks
  pub attends : (d : ℕ) (t : Scheduler) (x : DeskState) → d < length desks
      → SchedulerAttends (slice_index_or schedulers d t) (slice_index_or desks d x).shard
  pub upholds : (d : ℕ) (t : Scheduler) (x : DeskState) → d < length desks
      → SchedulerUpholds past (slice_index_or schedulers d t) (slice_index_or desks d x).shard

-- no scheduler has anything to do on its desk, as `is_idle` says of each
abbrev pub AreSchedulersIdle : List Scheduler → List DeskState → Type 0
AreSchedulersIdle schedulers desks =
    (d : ℕ) (t : Scheduler) (x : DeskState) → d < length desks
    → is_idle (crew_of (slice_index_or schedulers d t)) (slice_index_or desks d x).shard ≡ true

-- Where no scheduler of a node has anything to do, and the node is gathered with its desks as they were, and is still, each
-- child that its supervisor wants alive lives, or took its link away itself; unless the supervisor is ending one that traps
-- exits and lives on.
abbrev pub SchedulersChildrenLive : Type 0
SchedulersChildrenLive =
    (past : Past) (schedulers : List Scheduler) (desks : List DeskState) (g : GatheredState)
    → AllSchedulersUphold past schedulers desks → AreSchedulersIdle schedulers desks → g.shards ≡ all_shards desks → IsGathered g → IsStillNode g
    → AllChildrenLive past boss_part (map crew_of schedulers) g
