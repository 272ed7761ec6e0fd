-- `pair_up`: what holds in its loop over `d`.
use Rattle.std.proofs.Common.{◌≡◌, ℕ, ◌<◌, ◌≤◌, [], slice_index_or, vec_len, vec_capacity}
use Rattle.pt_carrier.specs.Ends.{OutEnds, InEnds, out_ends, in_ends}
use Rattle.pt_carrier.specs.Node.{lists}
use Rattle.pt_carrier.proofs.opening.pair_up.Given as goal

abbrev pub invariant-loop-d : goal.invariant-loop-d
invariant-loop-d l = record {
  row_desks : vec_len l.rows ≡ l.desks;
  column_desks : vec_len l.columns ≡ l.desks;
  count : vec_len l.pairs ≡ l.d;
  room : vec_capacity l.pairs ≡ l.desks;
  rows : (k : ℕ) → l.d ≤ k → slice_index_or (lists l.rows.items) k [] ≡ slice_index_or (lists l.initial.rows.items) k [];
  columns : (k : ℕ) → l.d ≤ k → slice_index_or (lists l.columns.items) k [] ≡ slice_index_or (lists l.initial.columns.items) k [];
  pairs : (k : ℕ) (p : OutEnds × InEnds) → k < l.d → slice_index_or l.pairs.items k p ≡ (out_ends k (slice_index_or (lists l.initial.rows.items) k []), in_ends k 0 (slice_index_or (lists l.initial.columns.items) k []));
}
