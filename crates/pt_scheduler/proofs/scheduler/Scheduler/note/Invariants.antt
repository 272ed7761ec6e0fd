-- `Scheduler::note`: what holds in its loop over `self`.
use Rattle.std.proofs.Common.{◌≡◌, ◌-◌, length}
use Rattle.pt_crew.specs.Crews.{KeepsRest, queue}
use Rattle.pt_scheduler.specs.Scheduling.{SameViews, SchedulerAttends}
use Rattle.pt_scheduler.proofs.scheduler.Scheduler.note.Given as goal

abbrev pub invariant-loop-self : goal.invariant-loop-self
invariant-loop-self l = record {
  attends : SchedulerAttends l.initial.self l.desk.shard → SchedulerAttends l.self l.desk.shard;
  views : SameViews l.initial.self l.self;
  queue : queue l.self.crew ≡ queue l.initial.self.crew;
  rest : KeepsRest l.initial.self.crew l.self.crew;
  desk : l.self.desk ≡ l.initial.self.desk;
}

abbrev pub decreases-loop-self : goal.decreases-loop-self
decreases-loop-self l = length l.events - l.self.read
