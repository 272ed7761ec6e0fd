-- What making room for one more value does. No public clause cites this module.
use Rattle.std.specs.Prelude.{◌≡◌, ℕ, ◌<◌, ◌≤◌, None, IsSome, length, slice_index_or}
use Rattle.pt_slots.specs.State.{SlotsState, next_key}
use Rattle.pt_slots.specs.declared.Growth.{Growth}
use Rattle.pt_slots.specs.declared.Growth.TheVariants.{Ready, Full, Memory}

module _ {T : Type 0} where
  -- the slot that is offered is free and has a version, and nothing that was there changed
  pub record HasRoom (old new : SlotsState T) : Type 0 where
    pub free : slice_index_or new.slots new.vacant None ≡ None
    pub has_version : new.vacant < length new.versions
    pub longer : length old.versions ≤ length new.versions
    pub versions_kept : (slot : ℕ) → slice_index_or new.versions slot 0 ≡ slice_index_or old.versions slot 0
    pub slots_kept : new.slots ≡ old.slots
    pub vacant_kept : new.vacant ≡ old.vacant
    pub capacity_kept : new.capacity ≡ old.capacity
    pub top_version_kept : new.top_version ≡ old.top_version

  abbrev pub Grows : SlotsState T → Growth → SlotsState T → Type 0
  Grows old Ready new = HasRoom old new
  Grows old Full new = (next_key old ≡ None) × (new ≡ old)
  Grows old Memory new = IsSome (next_key old) × (new ≡ old)
