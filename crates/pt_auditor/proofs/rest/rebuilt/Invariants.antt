-- `rebuilt`: what holds in its loop, and that it ends.
use Rattle.std.proofs.Common.{length}
use Rattle.pt_auditor.proofs.Resting.{IsRebuilding}
use Rattle.pt_auditor.proofs.rest.rebuilt.Given as goal

abbrev pub invariant-loop-resident : goal.invariant-loop-resident
invariant-loop-resident l = IsRebuilding l.initial.residents.items l.state l.residents.items

abbrev pub decreases-loop-resident : goal.decreases-loop-resident
decreases-loop-resident l = length l.residents.items
