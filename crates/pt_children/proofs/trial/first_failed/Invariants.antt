-- `first_failed`: what holds in its loop over `place`.
use Rattle.std.proofs.Common.{◌≡◌}
use Rattle.pt_children.specs.Trying.{first_failed}
use Rattle.pt_children.proofs.trial.first_failed.Given as goal

abbrev pub invariant-loop-place : goal.invariant-loop-place
invariant-loop-place l = l.first ≡ first_failed l.children l.place
