-- How many slots are taken, told slot by slot.
use Rattle.std.specs.Prelude.{ℕ, count_by, is_some}
use Rattle.std.specs.List.{range_with_len}
use Rattle.pt_slots.specs.State.{SlotsState, at, issued}

module _ {T : Type 0} where
  -- in how many slots the value of the latest version is live
  abbrev pub taken_slots : SlotsState T → ℕ
  taken_slots s = count_by (λ slot. is_some (at s slot (issued s slot))) (range_with_len 0 s.capacity)
