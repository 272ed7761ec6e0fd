-- What holds of the fields of every `Slots`. No public clause cites this module.
use Rattle.std.specs.Prelude.{◌≡◌, ℕ, ◌<◌, ◌≤◌, ◌^◌, Some, None, length, slice_index_or, count_by, is_some}
use Rattle.pt_slots.specs.State.{SlotsState, is_retired}
use Rattle.pt_slots.specs.declared.TheConstants.{MAX_CAPACITY}

module _ {T : Type 0} where
  -- `room` is how many slots the slab can have before it has to grow
  pub record IsSound (s : SlotsState T) (retired room : ℕ) : Type 0 where
    pub capacity_fits : s.capacity ≤ MAX_CAPACITY
    pub top_fits : s.top_version < 2 ^ 32
    pub within : count_by is_some s.slots ≤ s.capacity
    pub retired_is : retired ≡ count_by is_retired s.slots
    -- a slot that was used has a version
    pub none_past : (slot : ℕ) → length s.versions ≤ slot → slice_index_or s.slots slot None ≡ None
    pub slots_fit : length s.versions ≤ s.capacity
    pub slots_stored : length s.versions ≤ room
    pub retired_at_top : (slot : ℕ) → slice_index_or s.slots slot None ≡ Some None
        → slice_index_or s.versions slot 0 ≡ s.top_version
    pub issued_fits : (slot : ℕ) → slice_index_or s.versions slot 0 ≤ s.top_version
    -- so a free slot has a version left
    pub free_below_top : (slot : ℕ) → slice_index_or s.slots slot None ≡ None
        → slice_index_or s.versions slot 0 < s.top_version
