-- `Scheduler::keep_exits`: what holds in its loop over `place`.
use Rattle.pt_scheduler.proofs.Keeping.{Through}
use Rattle.pt_scheduler.proofs.scheduler.Scheduler.keep_exits.Given as goal

abbrev pub invariant-loop-place : goal.invariant-loop-place
invariant-loop-place l = Through l.history l.place l.initial.self l.self
