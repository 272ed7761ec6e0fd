-- `spare_places`: what holds in its loop over `place`.
use Rattle.std.proofs.Common.{◌≡◌, length}
use Rattle.pt_c_desks.proofs.rows.spare_places.Given as goal

abbrev pub invariant-loop-place : goal.invariant-loop-place
invariant-loop-place l = length l.places.items ≡ l._place
