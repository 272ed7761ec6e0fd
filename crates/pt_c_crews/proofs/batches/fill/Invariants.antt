-- `fill`: what holds in its loop over `place`.
use Rattle.std.proofs.Common.{◌≡◌, ◌≤◌, length}
use Rattle.pt_events.specs.History.{Past}
use Rattle.pt_desk.specs.DeskState.{GoesOn}
use Rattle.pt_crew.specs.Crews.{queue, time_of}
use Rattle.pt_scheduler.specs.Scheduling.{SchedulerAttends, SchedulerUpholds}
use Rattle.pt_c_crews.proofs.InCrew.{RowSo}
use Rattle.pt_c_crews.proofs.batches.fill.Given as goal

abbrev pub invariant-loop-place : goal.invariant-loop-place
invariant-loop-place l = record {
  so_far : SchedulerAttends l.fn.crew l.fn.desk.shard → RowSo (queue l.fn.crew.crew) l._place l.fn.jobs l.fn.crew l.fn.desk.shard l.filled l.jobs l.crew l.desk.shard;
  attends : SchedulerAttends l.fn.crew l.fn.desk.shard → SchedulerAttends l.crew l.desk.shard;
  upholds : (past : Past) → SchedulerAttends l.fn.crew l.fn.desk.shard → SchedulerUpholds past l.fn.crew l.fn.desk.shard → SchedulerUpholds past l.crew l.desk.shard;
  time : time_of l.crew.crew ≡ time_of l.fn.crew.crew;
  desk : l.crew.desk ≡ l.fn.crew.desk;
  len : length l.jobs ≡ length l.fn.jobs;
  fits : l.filled ≤ length l.jobs;
  goes_on : GoesOn l.fn.desk l.desk;
}
