-- What each call of a `Slots` does.
use Rattle.std.specs.Prelude.{◌≡◌, ℕ, ◌+◌, ◌<◌, ◌≤◌, ◌==◌, ◌&&◌, Bool, Option, Some, None, Result, Ok, Err, IsSome}
use Rattle.std.specs.Prelude.{if◌then◌else◌}
use Rattle.pt_slots.specs.State.{SlotsState, at, issued, live_count, retired_count, next_key}
use Rattle.pt_slots.specs.Offers.{OffersTheFree}
use Rattle.pt_slots.specs.declared.InsertError.{InsertError}
use Rattle.pt_slots.specs.declared.InsertError.TheVariants.{Full, Memory}
use Rattle.pt_slots.specs.declared.Key.{Key}

-- the key is of this slot and version
abbrev pub names : Key → ℕ → ℕ → Bool
names key slot version = (key.slot == slot) && (key.version == version)

module _ {T : Type 0} where
  pub record SameSettings (old new : SlotsState T) : Type 0 where
    pub capacity : new.capacity ≡ old.capacity
    pub top_version : new.top_version ≡ old.top_version

  pub record IsEmpty (capacity top_version : ℕ) (s : SlotsState T) : Type 0 where
    pub none_live : (slot version : ℕ) → at s slot version ≡ None
    pub none_issued : (slot : ℕ) → issued s slot ≡ 0
    pub counted : live_count s ≡ 0
    pub retired : retired_count s ≡ 0
    pub next : next_key s ≡ Some (record { slot = 0; version = 1 })
    pub offers : OffersTheFree s
    pub capacity_is : s.capacity ≡ capacity
    pub top_version_is : s.top_version ≡ top_version

  -- `insert` gave the value this key
  pub record Inserted (value : T) (key : Key) (old new : SlotsState T) : Type 0 where
    -- the key is the one offered, of the version after the slot's latest
    pub offered : next_key old ≡ Some key
    pub slot_in_range : key.slot < old.capacity
    pub version_is_next : key.version ≡ issued old key.slot + 1
    pub version_in_range : key.version ≤ old.top_version
    -- the value is live under it, and all other keys are as they were
    pub live : (slot version : ℕ) → at new slot version
        ≡ (if names key slot version then Some value else at old slot version)
    pub issues : (slot : ℕ) → issued new slot
        ≡ (if key.slot == slot then key.version else issued old slot)
    pub counted : live_count new ≡ live_count old + 1
    pub retired : retired_count new ≡ retired_count old
    pub offers : OffersTheFree new
    pub settings : SameSettings old new

  abbrev pub Inserts : T → SlotsState T → Result Key (InsertError T) → SlotsState T → Type 0
  Inserts value old (Ok key) new = Inserted value key old new
  Inserts value old (Err (Full back)) new =
      (next_key old ≡ None) × (back ≡ value) × (new ≡ old)
  Inserts value old (Err (Memory back)) new =
      IsSome (next_key old) × (back ≡ value) × (new ≡ old)

  -- the value that was live under the key was removed
  pub record Removed (key : Key) (value : T) (old new : SlotsState T) : Type 0 where
    -- the key is dead, all other keys are as they were, and no version is forgotten
    pub was_live : at old key.slot key.version ≡ Some value
    pub live : (slot version : ℕ) → at new slot version
        ≡ (if names key slot version then None else at old slot version)
    pub issues : (slot : ℕ) → issued new slot ≡ issued old slot
    pub counted : live_count new + 1 ≡ live_count old
    -- at the top version the slot is retired, and below it the slot is offered next
    pub retired : retired_count new
        ≡ retired_count old + (if key.version == old.top_version then 1 else 0)
    pub next : next_key new ≡ (if key.version == old.top_version
        then next_key old
        else Some (record { slot = key.slot; version = key.version + 1 }))
    pub offers : OffersTheFree new
    pub settings : SameSettings old new

  abbrev pub Removes : Key → SlotsState T → Option T → SlotsState T → Type 0
  Removes key old (Some value) new = Removed key value old new
  Removes key old None new = (at old key.slot key.version ≡ None) × (new ≡ old)

  -- the live value under the key was written over
  pub record Written (key : Key) (value : T) (old new : SlotsState T) : Type 0 where
    pub live : (slot version : ℕ) → at new slot version
        ≡ (if names key slot version then Some value else at old slot version)
    pub issues : (slot : ℕ) → issued new slot ≡ issued old slot
    pub counted : live_count new ≡ live_count old
    pub retired : retired_count new ≡ retired_count old
    pub next : next_key new ≡ next_key old
    pub settings : SameSettings old new
