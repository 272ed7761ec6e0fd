-- `fill_all`: what holds in its loop over `desk`.
use Rattle.std.proofs.Common.{◌≡◌, List, ◌++◌, map, length}
use Rattle.pt_desk.specs.DeskState.{DeskState}
use Rattle.pt_c_values.specs.Places.{HandlePlace, full}
use Rattle.pt_c_desks.proofs.rows.fill_all.Given as goal

abbrev pub invariant-loop-desk : goal.invariant-loop-desk
invariant-loop-desk l = record {
  rest : (pre : List (HandlePlace DeskState)) × (done : List DeskState)
      × (map (λ h. h.state) l.desks ≡ pre ++ map full done)
      × (l.list.items ++ done ≡ l.fn.list.items)
      × (length pre ≡ length l.list.items);
  at : l.k ≡ length l.list.items;
  places : length l.places.items ≡ length l.list.items;
}

abbrev pub decreases-loop-desk : goal.decreases-loop-desk
decreases-loop-desk l = length l.list.items
