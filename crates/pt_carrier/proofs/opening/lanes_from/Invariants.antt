-- `lanes_from`: what holds in its loop over `e`.
use Rattle.std.proofs.Common.{◌≡◌, ℕ, ◌<◌, ◌≤◌, [], ◌∷◌, ◌++◌, slice_index_or, vec_len}
use Rattle.pt_carrier.specs.Lanes.{Sending, new_sending, new_receiving}
use Rattle.pt_carrier.specs.Node.{lists}
use Rattle.pt_carrier.proofs.opening.lanes_from.Given as goal

abbrev pub invariant-loop-e : goal.invariant-loop-e
invariant-loop-e l = record {
  row_desks : vec_len l.row ≡ l.e;
  column_desks : vec_len l.columns ≡ l.desks;
  row : (k : ℕ) (x : Sending) → k < l.e → slice_index_or l.row.items k x ≡ new_sending (slice_index_or l.row.items k x).ring l.d k l.capacity;
  columns : (k : ℕ) (x : Sending) → k < l.e → slice_index_or (lists l.columns.items) k [] ≡ slice_index_or (lists l.initial.columns.items) k [] ++ new_receiving (slice_index_or l.row.items k x).ring l.d k ∷ [];
  rest : (k : ℕ) → l.e ≤ k → slice_index_or (lists l.columns.items) k [] ≡ slice_index_or (lists l.initial.columns.items) k [];
}
