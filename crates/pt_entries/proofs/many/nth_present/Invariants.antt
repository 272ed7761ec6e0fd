-- `nth_present`: what holds in its loop over `at`.
use Rattle.std.proofs.Common.{◌≡◌, drop, slice_get}
use Rattle.pt_entries.specs.Gaps.{present}
use Rattle.pt_entries.proofs.many.nth_present.Given as goal

abbrev pub invariant-loop-at : goal.invariant-loop-at
invariant-loop-at g l = slice_get (present (drop l.at l.places.entries)) l.left ≡ slice_get (present l.places.entries) l.i
