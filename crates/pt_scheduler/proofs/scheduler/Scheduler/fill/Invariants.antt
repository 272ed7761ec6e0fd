-- `Scheduler::fill`: what holds in its loop over `place`.
use Rattle.std.proofs.Common.{◌≡◌, ◌≤◌, length}
use Rattle.pt_events.specs.History.{Past}
use Rattle.pt_desk.specs.DeskState.{GoesOn}
use Rattle.pt_crew.specs.Crews.{queue, time_of}
use Rattle.pt_scheduler.specs.Scheduling.{SchedulerAttends, SchedulerUpholds}
use Rattle.pt_scheduler.proofs.Filling.{FilledSo}
use Rattle.pt_scheduler.proofs.scheduler.Scheduler.fill.Given as goal

abbrev pub invariant-loop-place : goal.invariant-loop-place
invariant-loop-place l = record {
  so_far : SchedulerAttends l.fn.self l.fn.desk.shard → FilledSo (queue l.fn.self.crew) l._place l.fn.jobs l.fn.self l.fn.desk.shard l.filled l.jobs l.self l.desk.shard;
  attends : SchedulerAttends l.fn.self l.fn.desk.shard → SchedulerAttends l.self l.desk.shard;
  upholds : (past : Past) → SchedulerAttends l.fn.self l.fn.desk.shard → SchedulerUpholds past l.fn.self l.fn.desk.shard → SchedulerUpholds past l.self l.desk.shard;
  time : time_of l.self.crew ≡ time_of l.fn.self.crew;
  desk : l.self.desk ≡ l.fn.self.desk;
  len : length l.jobs ≡ length l.fn.jobs;
  fits : l.filled ≤ length l.jobs;
  goes_on : GoesOn l.fn.desk l.desk;
}
