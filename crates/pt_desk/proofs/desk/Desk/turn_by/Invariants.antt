-- `Desk::turn_by`: what holds in its loop over `k`.
use Rattle.pt_desk.proofs.Own.{HaveGone}
use Rattle.pt_desk.proofs.desk.Desk.turn_by.Given as goal

abbrev pub invariant-loop-k : goal.invariant-loop-k
invariant-loop-k l = HaveGone l.k l.initial.self l.self
