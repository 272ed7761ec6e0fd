-- `empty_columns`: what holds in its loop over `e`.
use Rattle.std.proofs.Common.{◌≡◌, ℕ, [], slice_index_or, vec_len}
use Rattle.pt_carrier.specs.Node.{lists}
use Rattle.pt_carrier.proofs.opening.empty_columns.Given as goal

abbrev pub invariant-loop-e : goal.invariant-loop-e
invariant-loop-e l = (vec_len l.columns ≡ l._e) × ((e : ℕ) → slice_index_or (lists l.columns.items) e [] ≡ [])
