-- `post`: what holds in its loop, and that it ends.
use Rattle.std.proofs.Common.{length}
use Rattle.pt_auditor.proofs.Carried.{IsPosted}
use Rattle.pt_auditor.proofs.desks.post.Given as goal

abbrev pub invariant-loop-from : goal.invariant-loop-from
invariant-loop-from l = IsPosted l.stamp l.initial.lanes l.initial.sent l.lanes l.sent

abbrev pub decreases-loop-from : goal.decreases-loop-from
decreases-loop-from l = length l.sent
