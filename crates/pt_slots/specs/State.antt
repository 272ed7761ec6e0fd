-- What a contract sees of a `Slots`.
use Rattle.std.specs.Prelude.{ℕ, suc, ◌+◌, ◌==◌, ◌&&◌, not, nat_lt, Bool, true, false, List, [], ◌∷◌, Option, Some}
use Rattle.std.specs.Prelude.{None, is_some, unwrap_or, count_by, slice_index_or, slice_set, if◌then◌else◌}
use Rattle.slab.specs.Slab.{Slab}
use Rattle.pt_slots.specs.declared.Key.{Key}

pub record SlotsState (T : Type 0) : Type 0 where
  -- what each slot holds: nothing where it is free, `Some None` where it is retired, else its value
  pub slots : List (Option (Option T))
  -- the latest version that each slot has issued
  pub versions : List ℕ
  -- the slot that the slab offers
  pub vacant : ℕ
  pub capacity : ℕ
  pub top_version : ℕ

module _ {T : Type 0} where
  -- the state that the fields of a `Slots` make up
  abbrev pub state : Slab (Option T) → List ℕ → ℕ → ℕ → SlotsState T
  state entries versions capacity top_version =
      record {
        slots = entries.slots;
        versions = versions;
        vacant = entries.vacant_key;
        capacity = capacity;
        top_version = top_version;
      }

  -- the latest version that a slot has issued, or 0
  unfoldable pub issued : SlotsState T → ℕ → ℕ
  issued s slot = slice_index_or s.versions slot 0

  -- the live value under a slot and version
  unfoldable pub at : SlotsState T → ℕ → ℕ → Option T
  at s slot version =
      if slice_index_or s.versions slot 0 == version
      then unwrap_or (slice_index_or s.slots slot None) None
      else None

  abbrev pub is_live : Option (Option T) → Bool
  is_live (Some (Some value)) = true
  is_live (Some None) = false
  is_live None = false

  abbrev pub is_retired : Option (Option T) → Bool
  is_retired (Some (Some value)) = false
  is_retired (Some None) = true
  is_retired None = false

  -- how many values are live
  unfoldable pub live_count : SlotsState T → ℕ
  live_count s = count_by is_live s.slots

  -- how many slots are retired
  unfoldable pub retired_count : SlotsState T → ℕ
  retired_count s = count_by is_retired s.slots

  -- every slot is taken or retired
  unfoldable pub is_full : SlotsState T → Bool
  is_full s = live_count s + retired_count s == s.capacity

  -- the first slot that is free
  abbrev pub first_free : List (Option (Option T)) → ℕ
  first_free [] = 0
  first_free (None ∷ slots) = 0
  first_free (Some entry ∷ slots) = suc (first_free slots)

  -- the free slot that is used next: the one that the slab offers, where that is below the capacity
  unfoldable pub free_slot : SlotsState T → ℕ
  free_slot s =
      if nat_lt s.vacant s.capacity && not (is_some (slice_index_or s.slots s.vacant None))
      then s.vacant
      else first_free s.slots

  -- the key that the next `insert` gives
  unfoldable pub next_key : SlotsState T → Option Key
  next_key s =
      if is_full s
      then None
      else Some (record { slot = free_slot s; version = issued s (free_slot s) + 1 })

  -- the slots after a write through `get_mut`
  abbrev pub with_value : SlotsState T → Key → T → SlotsState T
  with_value s key value = record s { slots = slice_set s.slots key.slot (Some (Some value)) }
