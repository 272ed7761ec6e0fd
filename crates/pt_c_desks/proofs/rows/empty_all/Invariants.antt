-- `empty_all`: what holds in its loop over `k`.
use Rattle.std.proofs.Common.{◌≡◌, ◌+◌, ◌≤◌, List, ◌++◌, None, map, length}
use Rattle.std.specs.Prelude.{replicate}
use Rattle.std.specs.Vec.{vec_capacity}
use Rattle.pt_desk.specs.DeskState.{DeskState}
use Rattle.pt_c_values.specs.Places.{HandlePlace, values}
use Rattle.pt_c_desks.proofs.rows.empty_all.Given as goal

abbrev pub invariant-loop-k : goal.invariant-loop-k
invariant-loop-k l = record {
  split : (rest : List (HandlePlace DeskState)) × (map (λ h. h.state) l.desks ≡ replicate l.k None ++ rest)
      × (l.list.items ++ values rest ≡ values (map (λ h. h.state) l.fn.desks)) × (length (values rest) ≡ length rest)
      × (l.k + length rest ≡ length l.fn.desks);
  places : length l.places.items ≡ l.k;
  list : length l.list.items ≡ l.k;
  room : (length l.fn.desks ≤ vec_capacity l.list) × (length l.fn.desks ≤ vec_capacity l.places);
}
