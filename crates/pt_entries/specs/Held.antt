-- The entries of a list in a vector, and in a map. No public clause cites this module.
use Rattle.std.specs.Prelude.{◌≡◌, ℕ, ◌-◌, ◌≤◌, Bool, List, length, min}
use Rattle.std.specs.List.{IsDistinct}
use Rattle.std.specs.Map.{keys_of}
use Rattle.std.specs.Vec.{vec_capacity}
use Rattle.pt_entries.specs.declared.entries.Places.{Places}
use Rattle.pt_entries.specs.declared.entries.Places.TheVariants.{Few, Many}

module _ {K V : Type 0} where
  abbrev pub held_entries : Places K V → List (K × V)
  held_entries (Few few) = few.items
  held_entries (Many many) = many.value.entries

  -- a vector takes eight entries at most
  abbrev pub held_room : Places K V → ℕ
  held_room (Few few) = min (vec_capacity few) 8 - length few.items
  held_room (Many many) = many.value.room

  abbrev pub IsHeld : (K → K → Bool) → Places K V → Type 0
  IsHeld eq (Few few) = (length few.items ≤ 8) × IsDistinct eq (keys_of few.items)
  IsHeld eq (Many many) = Unit {0}

  -- no gap stands between the entries
  abbrev pub IsClosed : Places K V → Type 0
  IsClosed (Few few) = length few.items ≤ 8
  IsClosed (Many many) = many.value.gaps ≡ 0
