-- `Quiet::state`: what holds in its loop over `which`.
use Rattle.std.proofs.Common.{◌≡◌, take}
use Rattle.pt_accounts.specs.LivesState.{InEveryMerge}
use Rattle.pt_gathered.specs.Gathered.{begins, journals}
use Rattle.pt_gathered.proofs.StartStates.{begun}
use Rattle.pt_gathered.proofs.quiet.Quiet.state.Given as goal

abbrev pub invariant-loop-which : goal.invariant-loop-which
invariant-loop-which l = InEveryMerge (journals l.settled.gathered) (λ before. l.state ≡ begun (begins l.settled.gathered) before (take l.which l.pids))
