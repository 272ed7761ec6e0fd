-- `take_each`: what holds in its loop over `count`.
use Rattle.pt_desk.specs.DeskState.{GoesOn}
use Rattle.pt_workers.specs.Taking.{TakesMany}
use Rattle.pt_workers.proofs.taking.take_each.Given as goal

abbrev pub invariant-loop-count : goal.invariant-loop-count
invariant-loop-count g l = record {
  goes_on : GoesOn l.initial.desk l.desk;
  took : TakesMany g.T.Takes.takes l.p l.pick l.count (l.initial.desk, l.initial.to) (l.desk, l.to);
}
