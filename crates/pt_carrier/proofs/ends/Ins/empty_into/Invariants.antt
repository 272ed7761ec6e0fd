-- `Ins::empty_into`: what holds in its loop over `d`.
use Rattle.std.proofs.Common.{◌≡◌, ◌≢◌, ◌⊎◌, ℕ, ◌+◌, ◌*◌, ◌<◌, ◌≤◌, [], map, vec_len, slice_index_or}
use Rattle.pt_carrier.specs.Lanes.{Receiving}
use Rattle.pt_carrier.specs.Node.{lists}
use Rattle.pt_carrier.specs.Reunion.{room_at}
use Rattle.pt_carrier.proofs.ends.Ins.empty_into.Given as goal

abbrev pub invariant-loop-d : goal.invariant-loop-d
invariant-loop-d l = record {
  count : vec_len l.lanes ≡ l.desks;
  lanes : (i : ℕ) (x : Receiving) → l.d ≤ i → slice_index_or l.lanes.items i x ≡ slice_index_or l.initial.lanes.items i x;
  known : (i : ℕ) → i < l.d → slice_index_or (lists l.left) (i * l.desks + l.number) [] ≡ slice_index_or (map (λ (s : Receiving). s.known) l.initial.lanes.items) i [];
  others : (i j : ℕ) → j < l.desks → (j ≢ l.number) ⊎ (l.d ≤ i) → room_at l.left (i * l.desks + j) ≡ room_at l.initial.left (i * l.desks + j);
}
