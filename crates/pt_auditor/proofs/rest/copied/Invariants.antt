-- `copied`: what holds in its loop.
use Rattle.std.proofs.Common.{◌≡◌, take}
use Rattle.pt_auditor.proofs.rest.copied.Given as goal

abbrev pub invariant-loop-place : goal.invariant-loop-place
invariant-loop-place l = l.copy.items ≡ take l.place l.items
