-- `drained`: what holds in its loop, and that it ends.
use Rattle.std.proofs.Common.{length}
use Rattle.pt_auditor.proofs.Resting.{IsDraining}
use Rattle.pt_auditor.proofs.rest.drained.Given as goal

abbrev pub invariant-loop-from : goal.invariant-loop-from
invariant-loop-from l = IsDraining l.initial.state l.state l.estate

abbrev pub decreases-loop-from : goal.decreases-loop-from
decreases-loop-from l = length l.state.flights
