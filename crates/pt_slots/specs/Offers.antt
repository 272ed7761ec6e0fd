-- Which key is offered, and when there is none.
use Rattle.std.specs.Prelude.{◌≡◌, ◌⊎◌, ℕ, ◌+◌, ◌<◌, ◌≤◌, None, IsSome, IfSome}
use Rattle.pt_slots.specs.State.{SlotsState, at, issued, next_key}

module _ {T : Type 0} where
  -- the slot is taken or retired: its latest key is live, or had the top version
  abbrev pub IsTakenOrRetired : SlotsState T → ℕ → Type 0
  IsTakenOrRetired s slot = IsSome (at s slot (issued s slot)) ⊎ (issued s slot ≡ s.top_version)

  pub record OffersTheFree (s : SlotsState T) : Type 0 where
    -- no key is offered only where every slot below the capacity is taken or retired
    pub none : next_key s ≡ None → (slot : ℕ) → slot < s.capacity → IsTakenOrRetired s slot
    -- the key offered is of a slot below the capacity in which nothing is live, and of its next version
    pub below : IfSome (next_key s) (λ key. key.slot < s.capacity)
    pub free : IfSome (next_key s) (λ key. (version : ℕ) → at s key.slot version ≡ None)
    pub version : IfSome (next_key s) (λ key. (key.version ≡ issued s key.slot + 1) × (key.version ≤ s.top_version))
