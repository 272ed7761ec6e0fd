-- `are_idle`: what holds in its loop over `place`.
use Rattle.std.proofs.Common.{◌≡◌, ℕ, ◌<◌, true, get_or}
use Rattle.pt_desk.specs.DeskState.{DeskState}
use Rattle.pt_runner.specs.declared.runner.Runner.{Runner}
use Rattle.pt_runner.specs.Waiting.{idle_runner}
use Rattle.pt_runner.proofs.idle.are_idle.Given as goal

abbrev pub invariant-loop-place : goal.invariant-loop-place
invariant-loop-place l = (d : ℕ) (r : Runner) (x : DeskState) → d < l.place → idle_runner (get_or l.runners d r) (get_or l.desks d x).shard ≡ true
