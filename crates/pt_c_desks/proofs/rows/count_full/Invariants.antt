-- `count_full`: what holds in its loop over `k`.
use Rattle.std.proofs.Common.{◌≡◌, List, ◌++◌, map, length}
use Rattle.pt_desk.specs.DeskState.{DeskState}
use Rattle.pt_c_values.specs.Places.{HandlePlace, values}
use Rattle.pt_c_desks.proofs.rows.count_full.Given as goal

abbrev pub invariant-loop-k : goal.invariant-loop-k
invariant-loop-k l = record {
  same : map (λ h. h.state) l.desks ≡ map (λ h. h.state) l.fn.desks;
  split : (seen : List (HandlePlace DeskState)) × (rest : List (HandlePlace DeskState))
      × (map (λ h. h.state) l.fn.desks ≡ seen ++ rest) × (length seen ≡ l.k) × (l.count ≡ length (values seen));
}
