-- `list_all`: what holds in its loop, and that it ends.
use Rattle.std.proofs.Common.{length}
use Rattle.pt_auditor.proofs.Resting.{IsLeftToList}
use Rattle.pt_auditor.proofs.rest.list_all.Given as goal

abbrev pub invariant-loop-pid : goal.invariant-loop-pid
invariant-loop-pid l = IsLeftToList l.initial.state l.state l.pids.items l.residents.items

abbrev pub decreases-loop-pid : goal.decreases-loop-pid
decreases-loop-pid l = length l.pids.items
