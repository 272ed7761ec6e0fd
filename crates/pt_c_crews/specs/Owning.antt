-- Whether a desk is that of a crew.
use Rattle.std.specs.Prelude.{ℕ, ◌+◌, ◌&&◌, Bool, true, List, [], ◌∷◌, Option, Some, None}
use Rattle.pt_desk.specs.DeskState.{DeskState}
use Rattle.pt_scheduler.specs.declared.scheduler.Scheduler.{Scheduler}
use Rattle.pt_scheduler.specs.Owning.{desk_of}
use Rattle.pt_c_values.specs.Places.{HandlePlace, value_behind}
use Rattle.pt_c_values.specs.Codes.{is_number_of}

abbrev pub is_own : Scheduler → DeskState → Bool
is_own t d = is_number_of (desk_of t) d.shard.number

-- a crew, if there is one, may be used with the desk of this place
abbrev pub fits_at : ℕ → Option Scheduler → Bool
fits_at place (Some t) = is_number_of (desk_of t) place
fits_at place None = true

-- so is each of these, of which the first has this place
abbrev pub are_own : ℕ → List (HandlePlace Scheduler) → Bool
are_own place [] = true
are_own place (p ∷ places) = fits_at place (value_behind p) && are_own (place + 1) places
