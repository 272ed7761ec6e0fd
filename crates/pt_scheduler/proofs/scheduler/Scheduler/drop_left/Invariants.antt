-- `Scheduler::drop_left`: what holds in its loop over `place`.
use Rattle.std.proofs.Common.{◌≡◌, ◌+◌, length}
use Rattle.pt_shard.specs.ShardState.{ShardState}
use Rattle.pt_crew.specs.Visiting.{AreSame}
use Rattle.pt_crew.specs.Crews.{Attends, left, queue, roles, time_of, waiting, was_refused}
use Rattle.pt_scheduler.proofs.scheduler.Scheduler.drop_left.Given as goal

abbrev pub invariant-loop-place : goal.invariant-loop-place
invariant-loop-place l = record {
  roles : AreSame (roles l.initial.self.crew) (roles l.self.crew);
  fewer : length (left l.self.crew) + l._place ≡ length (left l.initial.self.crew);
  waiting : waiting l.self.crew ≡ waiting l.initial.self.crew;
  queue : queue l.self.crew ≡ queue l.initial.self.crew;
  refused : was_refused l.self.crew ≡ was_refused l.initial.self.crew;
  time : time_of l.self.crew ≡ time_of l.initial.self.crew;
  read : l.self.read ≡ l.initial.self.read;
  desk : l.self.desk ≡ l.initial.self.desk;
  attends : (d : ShardState) → Attends l.initial.self.crew d → Attends l.self.crew d;
}
