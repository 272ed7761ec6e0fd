-- Whether handles have the desks of a node in order.
use Rattle.std.specs.Prelude.{ℕ, ◌+◌, ◌==◌, ◌&&◌, Bool, true, false, List, [], ◌∷◌, Option, Some, None}
use Rattle.pt_desk.specs.DeskState.{DeskState}
use Rattle.pt_c_values.specs.Places.{HandlePlace, value_behind}

-- it is the desk of this place, in a node of so many desks
abbrev pub is_desk_at : ℕ → ℕ → Option DeskState → Bool
is_desk_at place count (Some d) = (d.shard.number == place) && (d.shard.config.desks == count)
is_desk_at place count None = false

-- so is each of these, of which the first has this place
abbrev pub are_in_order : ℕ → ℕ → List (HandlePlace DeskState) → Bool
are_in_order place count [] = true
are_in_order place count (p ∷ places) = is_desk_at place count (value_behind p) && are_in_order (place + 1) count places
