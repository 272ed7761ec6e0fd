-- The key that is offered next, and the state with nothing in it.
use Rattle.std.proofs.Common.{◌≡◌, ◌≢◌, ℕ, ◌+◌, ◌<◌, ◌≤◌, ◌^◌, ◌&&◌, not, Bool, true, false, [], get_or, Option, Some, None, IsSome, is_some, count_by, nat_eq, refl, sym, ap, ◌∙◌, subst, inl, inr, arith, cond}
use Rattle.std.specs.Prelude.{nat_lt, IfSome}
use Rattle.std.proofs.lemmas.Bool.Decides.{nat_tests}
use Rattle.std.proofs.lemmas.Grind.{common_steps}
use Rattle.pt_slots.specs.Calls.{IsEmpty}
use Rattle.pt_slots.specs.Offers.{IsTakenOrRetired, OffersTheFree}
use Rattle.pt_slots.specs.Sound.{IsSound}
use Rattle.pt_slots.specs.State.{SlotsState, at, issued, live_count, retired_count, is_full, first_free, free_slot, next_key}
use Rattle.pt_slots.specs.declared.Key.{Key}
use Rattle.pt_slots.specs.declared.TheConstants.{MAX_CAPACITY}
use Rattle.pt_slots.proofs.Counts.{taken_split, count_with_free, first_free_within, first_free_is_free, first_free_same}

offered_by : (b : Bool) (offer key : Key) → cond b None (Some offer) ≡ Some key → (b ≡ false) × (offer ≡ key)
offered_by true offer key e = absurd (cc)
offered_by false offer key e = (refl, grind (arith, common_steps, e))

full_by : (b : Bool) (offer : Key) → cond b None (Some offer) ≡ None → b ≡ true
full_by true offer e = refl
full_by false offer e = absurd (cc)

module _ {T : Type 0} where
  -- `next` would tell this key
  pub record Offers (s : SlotsState T) (key : Key) : Type 0 where
    pub room : count_by is_some s.slots ≢ s.capacity
    pub slot_is : key.slot ≡ free_slot s
    pub version_is : key.version ≡ get_or s.versions key.slot 0 + 1

  full_by_taken : (s : SlotsState T) → is_full s ≡ nat_eq (count_by is_some s.slots) s.capacity
  unfolding is_full live_count retired_count
  full_by_taken s = rw (taken_split s.slots) refl

  -- the slot that the slab offers is used, where it is free and below the capacity
  pub free_slot_offered : (s : SlotsState T) → s.vacant < s.capacity → get_or s.slots s.vacant None ≡ None → free_slot s ≡ s.vacant
  unfolding free_slot
  free_slot_offered s below free = let test : nat_lt s.vacant s.capacity ≡ true = grind (arith, nat_tests) in rw (free, test) refl

  -- and else the first
  pub free_slot_first : (s : SlotsState T) → s.capacity ≤ s.vacant → free_slot s ≡ first_free s.slots
  unfolding free_slot
  free_slot_first s past = let test : nat_lt s.vacant s.capacity ≡ false = grind (arith, nat_tests) in rw test refl

  -- with room for one more, it is free and below the capacity
  pub free_slot_fits : (s : SlotsState T) → count_by is_some s.slots < s.capacity → (free_slot s < s.capacity) × (get_or s.slots (free_slot s) None ≡ None)
  unfolding free_slot
  free_slot_fits s room = go (nat_lt s.vacant s.capacity) refl (get_or s.slots s.vacant None) refl
    where
      first : (first_free s.slots < s.capacity) × (get_or s.slots (first_free s.slots) None ≡ None)
      first = (omega (arith, first_free_within s.slots, room), first_free_is_free s.slots)

      go : (b : Bool) → nat_lt s.vacant s.capacity ≡ b → (o : Option (Option T)) → get_or s.slots s.vacant None ≡ o
          → (cond (nat_lt s.vacant s.capacity && not (is_some (get_or s.slots s.vacant None))) s.vacant (first_free s.slots) < s.capacity)
          × (get_or s.slots (cond (nat_lt s.vacant s.capacity && not (is_some (get_or s.slots s.vacant None))) s.vacant (first_free s.slots)) None ≡ None)
      go true h None k = rw (h, k) (grind (arith, nat_tests), k)
      go true h (Some x) k = rw (h, k) first
      go false h o k = rw h first

  pub next_offered : (s : SlotsState T) (key : Key) → Offers s key → next_key s ≡ Some key
  unfolding next_key issued
  next_offered s key offers =
      let room : is_full s ≡ false = full_by_taken s ∙ grind (arith, common_steps, offers.room) in
      let same : record { slot = free_slot s; version = get_or s.versions (free_slot s) 0 + 1 } ≡ key = rw (← offers.slot_is, ← offers.version_is) refl in
      rw room (ap Some same)

  -- the offer rests on the versions, on which slots are free, and on the slot that the slab offers
  pub next_kept : (old new : SlotsState T) → new.versions ≡ old.versions → new.vacant ≡ old.vacant → new.capacity ≡ old.capacity → count_by is_some new.slots ≡ count_by is_some old.slots
      → ((i : ℕ) → is_some (get_or new.slots i None) ≡ is_some (get_or old.slots i None)) → next_key new ≡ next_key old
  unfolding next_key issued free_slot
  next_kept old new versions vacant capacity taken same =
      let full : is_full new ≡ is_full old = full_by_taken new ∙ rw (taken, capacity) (sym (full_by_taken old)) in
      let here : is_some (get_or new.slots old.vacant None) ≡ is_some (get_or old.slots old.vacant None) = same old.vacant in
      rw (full, versions, vacant, capacity, here, first_free_same old.slots new.slots same) refl

  pub next_none : (s : SlotsState T) → count_by is_some s.slots ≡ s.capacity → next_key s ≡ None
  unfolding next_key
  next_none s full =
      let none : is_full s ≡ true = full_by_taken s ∙ grind (arith, common_steps, full) in
      rw none refl

  pub offers_next : (s : SlotsState T) (key : Key) → next_key s ≡ Some key → Offers s key
  unfolding next_key issued
  offers_next s key e =
      let known = offered_by (is_full s) (record { slot = free_slot s; version = issued s (free_slot s) + 1 }) key e in
      let room : nat_eq (count_by is_some s.slots) s.capacity ≡ false = sym (full_by_taken s) ∙ known.0 in
      record {
        room = λ all. grind (arith, common_steps, room, all);
        slot_is = sym (ap (λ (k : Key). k.slot) known.1);
        version_is = rw (← known.1) refl;
      }

  none_next : (s : SlotsState T) → next_key s ≡ None → count_by is_some s.slots ≡ s.capacity
  unfolding next_key
  none_next s e =
      let full : nat_eq (count_by is_some s.slots) s.capacity ≡ true = sym (full_by_taken s) ∙ full_by (is_full s) _ e in
      grind (arith, common_steps, full)

  -- what is offered is free, and with nothing offered nothing is free
  module _ (s : SlotsState T) (retired room : ℕ) (sound : IsSound s retired room) where
    taken_entry : (slot : ℕ) (entry : Option (Option T)) → get_or s.slots slot None ≡ entry → IsSome entry → IsTakenOrRetired s slot
    unfolding at issued
    taken_entry slot None is some = absurd (cc)
    taken_entry slot (Some None) is some = inr (sound.retired_at_top slot is)
    taken_entry slot (Some (Some value)) is some = inl (grind (arith, common_steps, is))

    taken_unless : (slot : ℕ) → count_by is_some s.slots ≡ s.capacity → slot < s.capacity → (entry : Option (Option T)) → get_or s.slots slot None ≡ entry → IsTakenOrRetired s slot
    taken_unless slot all below None is =
        let fewer = count_with_free s.slots s.capacity slot (λ k past. sound.none_past k (let fit = sound.slots_fit in omega arith)) below is in
        absurd (omega (arith, all, fewer))
    taken_unless slot all below (Some entry) is = taken_entry slot (Some entry) is refl

    free_none : (slot version : ℕ) → get_or s.slots slot None ≡ None → at s slot version ≡ None
    unfolding at
    free_none slot version free = grind (arith, common_steps, free)

    if_offered : (P : Key → Type 0) → ((key : Key) → Offers s key → P key) → (o : Option Key) → next_key s ≡ o → IfSome o P
    if_offered P holds None is = tt
    if_offered P holds (Some key) is = holds key (offers_next s key is)

    fits : (key : Key) → Offers s key → (key.slot < s.capacity) × (get_or s.slots key.slot None ≡ None)
    fits key offers =
        subst (λ n. (n < s.capacity) × (get_or s.slots n None ≡ None)) (sym offers.slot_is)
        (free_slot_fits s (let some = offers.room in let all = sound.within in omega (arith, some, all)))

    version_of : (key : Key) → Offers s key → (key.version ≡ issued s key.slot + 1) × (key.version ≤ s.top_version)
    unfolding issued
    version_of key offers = let left = sound.free_below_top key.slot (fits key offers).1 in (offers.version_is, omega (arith, offers.version_is, left))

    pub offers_the_free : OffersTheFree s
    offers_the_free = record {
      none = λ none slot below. taken_unless slot (none_next s none) below (get_or s.slots slot None) refl;
      below = if_offered _ (λ key offers. (fits key offers).0) (next_key s) refl;
      free = if_offered _ (λ key offers version. free_none key.slot version (fits key offers).1) (next_key s) refl;
      version = if_offered _ version_of (next_key s) refl;
    }

  empty_sound : (s : SlotsState T) → s.slots ≡ [] → s.versions ≡ [] → s.capacity ≤ MAX_CAPACITY → 0 < s.top_version → s.top_version < 2 ^ 32 → IsSound s 0 0
  empty_sound s slots versions small some_version top_fits =
      record {
        capacity_fits = small;
        top_fits = top_fits;
        within = rw slots (omega arith);
        retired_is = rw slots refl;
        none_past = λ slot past. rw slots refl;
        slots_fit = rw versions (omega arith);
        slots_stored = rw versions (omega arith);
        retired_at_top = λ slot is. absurd (let none = rw slots at is in cc);
        issued_fits = λ slot. rw versions (omega arith);
        free_below_top = λ slot free. rw versions some_version;
      }

  pub is_empty : (s : SlotsState T) (capacity top_version : ℕ) → s.slots ≡ [] → s.versions ≡ [] → s.vacant ≡ 0 → s.capacity ≡ capacity → s.top_version ≡ top_version → 0 < capacity → capacity ≤ MAX_CAPACITY → 0 < top_version → top_version < 2 ^ 32 → IsEmpty capacity top_version s
  unfolding at issued live_count retired_count
  is_empty s capacity top_version slots versions vacant capacity_is top_is some_room small some_version top_fits =
      record {
        none_live = λ slot version. rw (slots, versions) (grind (arith, common_steps));
        none_issued = λ slot. rw versions refl;
        counted = rw slots refl;
        retired = rw slots refl;
        next = next_offered s (record { slot = 0; version = 1 }) (record {
          room = rw slots (omega (arith, capacity_is, some_room));
          slot_is = sym (free_slot_offered s (rw (vacant, capacity_is) some_room) (rw slots refl) ∙ vacant);
          version_is = rw versions refl;
        });
        offers = offers_the_free s 0 0 (empty_sound s slots versions (omega (arith, capacity_is, small)) (omega (arith, top_is, some_version)) (omega (arith, top_is, top_fits)));
        capacity_is = capacity_is;
        top_version_is = top_is;
      }
