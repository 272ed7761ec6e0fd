-- Each change of a slot: what a caller sees of it, and that the slots stay sound.
use Rattle.std.proofs.Common.{◌≡◌, ◌≢◌, ℕ, ◌+◌, ◌<◌, ◌≤◌, ◌^◌, ◌==◌, ◌&&◌, Bool, true, false, List, length, get_or, set, Option, Some, None, IsSome, is_some, cond, count_by, unwrap_or, refl, sym, ap, ◌∙◌, inl, inr, arith}
use Rattle.std.proofs.lemmas.Bool.{cases_eq, cases_lt}
use Rattle.std.proofs.lemmas.Grind.{common_steps, get_or_default_zero}
use Rattle.std.proofs.lemmas.List.{get_or_past, get_or-set_same, get_or-set_other, length-set}
use Rattle.slab.specs.Slab.{Slab, Updates}
use Rattle.pt_slots.specs.Calls.{Inserted, Removed, Written}
use Rattle.pt_slots.specs.Grows.{HasRoom}
use Rattle.pt_slots.specs.Sound.{IsSound}
use Rattle.pt_slots.specs.State.{SlotsState, at, issued, is_live, is_retired, live_count, retired_count, with_value}
use Rattle.pt_slots.specs.declared.Key.{Key}
use Rattle.pt_slots.proofs.Changes.{Changes, sound_changed, at_changed, issued_changed, count_changed}
use Rattle.pt_slots.proofs.Counts.{taken_split, count_with_free}
use Rattle.pt_slots.proofs.Offers.{Offers, free_slot_offered, next_offered, next_kept, offers_the_free}

pub found : {X : Type 0} (o : Option X) → IsSome o → (x : X) × (o ≡ Some x)
found None some = absurd (cc)
found (Some x) some = (x, refl)

pub same_value : {X : Type 0} (o : Option X) (x y : X) → o ≡ Some x → o ≡ Some y → x ≡ y
same_value o x y first second = ap (λ p. unwrap_or p x) (sym first ∙ second)

module _ {T : Type 0} where
  -- the fields where a key has a value
  pub record Holds (s : SlotsState T) (key : Key) (value : T) : Type 0 where
    pub entry : get_or s.slots key.slot None ≡ Some (Some value)
    pub latest : get_or s.versions key.slot 0 ≡ key.version

  held_by : (value : T) (b : Bool) (entry : Option (Option T)) → cond b (unwrap_or entry None) None ≡ Some value → (b ≡ true) × (entry ≡ Some (Some value))
  held_by value false entry e = absurd (cc)
  held_by value true None e = absurd (cc)
  held_by value true (Some x) e = (refl, ap Some e)

  pub holds : (s : SlotsState T) (key : Key) (value : T) → at s key.slot key.version ≡ Some value → Holds s key value
  unfolding at
  holds s key value live =
      let held = held_by value (get_or s.versions key.slot 0 == key.version) (get_or s.slots key.slot None) live in
      record { entry = held.1; latest = grind (arith, common_steps, held.0) }

  -- a slot with a value has a version
  pub below_versions : (s : SlotsState T) (key : Key) (value : T) (retired room : ℕ) → IsSound s retired room → at s key.slot key.version ≡ Some value → key.slot < length s.versions
  below_versions s key value retired room sound live =
      elim (cases_lt key.slot (length s.versions)) [
        | inl below ↦ below
        | inr past ↦
            let none = sound.none_past key.slot past in
            let some = (holds s key value live).entry in
            absurd (cc)
      ]

  module _ (old mid : SlotsState T) (retired room : ℕ) (sound : IsSound mid retired room) (has : HasRoom old mid) where
    fewer : count_by is_some mid.slots < length mid.versions
    fewer = count_with_free mid.slots (length mid.versions) mid.vacant sound.none_past has.has_version has.free

    -- a free slot that has a version leaves room for its value in the slab
    pub room_for_free : count_by is_some mid.slots + 1 ≤ room
    room_for_free = omega (arith, sound.slots_stored, fewer)

    -- and is the one that `next` tells
    pub offers_free : (key : Key) → key.slot ≡ mid.vacant → key.version ≡ get_or mid.versions key.slot 0 + 1 → Offers old key
    offers_free key slot_is version_is =
        record {
          room = λ all. omega (arith, all, sound.slots_fit, fewer, has.capacity_kept, ap (λ (xs : List (Option (Option T))). count_by is_some xs) has.slots_kept);
          slot_is = slot_is ∙ has.vacant_kept ∙ sym (free_slot_offered old (omega (arith, has.has_version, sound.slots_fit, has.capacity_kept, has.vacant_kept)) (rw (← has.slots_kept, ← has.vacant_kept) has.free));
          version_is = version_is ∙ ap (λ (n : ℕ). n + 1) (has.versions_kept key.slot);
        }

  -- a slot that has a version left holds no tombstone
  pub value_below_top : (s : SlotsState T) (key : Key) (retired room : ℕ) (held : Option T) → IsSound s retired room → get_or s.slots key.slot None ≡ Some held → get_or s.versions key.slot 0 ≡ key.version → key.version < s.top_version → (value : T) × (held ≡ Some value) × (at s key.slot key.version ≡ Some value)
  unfolding at
  value_below_top s key retired room None sound entry latest below =
      let top = sound.retired_at_top key.slot entry in
      absurd (omega (arith, top, latest, below))
  value_below_top s key retired room (Some value) sound entry latest below =
      (value, refl, grind (arith, common_steps, entry, latest))

  -- a slot has no value under another version than its latest
  pub dead_others : (s : SlotsState T) (slot : ℕ) → (other : ℕ) → other ≢ get_or s.versions slot 0 → at s slot other ≡ None
  unfolding at
  dead_others s slot other differs = grind (arith, common_steps, differs)

  -- a free slot has no value
  pub dead_free : (s : SlotsState T) (slot : ℕ) → get_or s.slots slot None ≡ None → (other : ℕ) → at s slot other ≡ None
  unfolding at
  dead_free s slot free other = grind (arith, common_steps, free)

  module _ (s : SlotsState T) (key : Key) (value : T) (entry : Option (Option T)) (vacant : ℕ) (live : at s key.slot key.version ≡ Some value) where
    within : key.slot < length s.slots
    within = grind (arith, get_or_past, (holds s key value live).entry)

    pub changes_entry : Changes s (record s { slots = set s.slots key.slot entry; vacant = vacant }) key.slot key.version entry
    changes_entry =
        record {
          entry_is = get_or-set_same s.slots key.slot entry None within;
          entries = λ other differs. get_or-set_other s.slots key.slot other entry None differs;
          version_is = (holds s key value live).latest;
          versions = λ other differs. refl;
          capacity = refl;
          top_version = refl;
        }

    pub at_entry : (slot version : ℕ) → at (record s { slots = set s.slots key.slot entry; vacant = vacant }) slot version ≡ cond ((key.slot == slot) && (key.version == version)) (unwrap_or entry None) (at s slot version)
    at_entry = at_changed _ _ _ _ _ changes_entry (λ other differs. dead_others s key.slot other (λ e. differs (e ∙ (holds s key value live).latest)))

    -- a slot that stays taken or retired changes nothing in which slots are free
    still_taken : is_some entry ≡ true → (i : ℕ) → is_some (get_or (set s.slots key.slot entry) i None) ≡ is_some (get_or s.slots i None)
    still_taken some i = elim (cases_eq i key.slot) [
      | inl same ↦ rw (same, changes_entry.entry_is, (holds s key value live).entry) some
      | inr differs ↦ ap is_some (changes_entry.entries i differs)
    ]

    count_entry : (p : Option (Option T) → Bool) → p None ≡ false → count_by p (set s.slots key.slot entry) + cond (p (Some (Some value))) 1 0 ≡ count_by p s.slots + cond (p entry) 1 0
    count_entry p none = rw (holds s key value live).entry at (count_changed _ _ _ _ _ changes_entry p none)

  module _ (s : SlotsState T) (key : Key) (was : T) (live : at s key.slot key.version ≡ Some was) where
    -- a write over a live value
    pub written : (value : T) → Written key value s (with_value s key value)
    unfolding issued live_count retired_count
    written value =
        let lives : count_by is_live (set s.slots key.slot (Some (Some value))) ≡ count_by is_live s.slots = omega (arith, count_entry s key was (Some (Some value)) s.vacant live is_live refl) in
        let retires : count_by is_retired (set s.slots key.slot (Some (Some value))) ≡ count_by is_retired s.slots = omega (arith, count_entry s key was (Some (Some value)) s.vacant live is_retired refl) in
        record {
          live = at_entry s key was (Some (Some value)) s.vacant live;
          issues = λ slot. refl;
          counted = lives;
          retired = retires;
          next = next_kept s (with_value s key value) refl refl refl (omega (arith, taken_split s.slots, taken_split (set s.slots key.slot (Some (Some value))), lives, retires))
              (still_taken s key was (Some (Some value)) s.vacant live refl);
          settings = record { capacity = refl; top_version = refl };
        }

  module _ (s : SlotsState T) (key : Key) (value : T) (retired room : ℕ) (sound : IsSound s retired room) (live : at s key.slot key.version ≡ Some value) where
    -- a removal below the top version, which leaves the slot free
    abbrev pub freed : SlotsState T
    freed = record s { slots = set s.slots key.slot None; vacant = key.slot }

    pub sound_freed : key.version < s.top_version → IsSound freed retired room
    sound_freed below_top =
        let taken = count_entry s key value None key.slot live is_some refl in
        let retires = count_entry s key value None key.slot live is_retired refl in
        sound_changed _ _ _ _ _ (changes_entry s key value None key.slot live) retired retired room room sound
        (below_versions s key value retired room sound live)
        (rw (holds s key value live).latest at (sound.issued_fits key.slot))
        (λ _. below_top)
        (λ spent. absurd (cc))
        (omega (arith, taken, sound.within))
        (omega (arith, retires, sound.retired_is))
        (omega arith)
        sound.slots_fit
        sound.slots_stored

    pub removed_freed : key.version < s.top_version → Removed key value s freed
    unfolding issued live_count retired_count
    removed_freed below_top =
        let test : (key.version == s.top_version) ≡ false = grind (arith, common_steps, below_top) in
        let taken = count_entry s key value None key.slot live is_some refl in
        record {
          was_live = live;
          live = at_entry s key value None key.slot live;
          issues = λ slot. refl;
          counted = omega (arith, count_entry s key value None key.slot live is_live refl);
          retired = rw test (omega (arith, count_entry s key value None key.slot live is_retired refl));
          next = rw test (next_offered freed _ (record {
            room = λ all. omega (arith, taken, sound.within, all);
            slot_is = sym (free_slot_offered freed (omega (arith, below_versions s key value retired room sound live, sound.slots_fit)) (changes_entry s key value None key.slot live).entry_is);
            version_is = ap (λ n. n + 1) (sym (holds s key value live).latest);
          }));
          offers = offers_the_free freed retired room (sound_freed below_top);
          settings = record { capacity = refl; top_version = refl };
        }

    -- a removal at the top version, which retires the slot
    abbrev pub spent : SlotsState T
    spent = record s { slots = set s.slots key.slot (Some None) }

    pub sound_spent : s.top_version ≤ key.version → IsSound spent (retired + 1) room
    sound_spent at_top =
        let fits : key.version ≤ s.top_version = rw (holds s key value live).latest at (sound.issued_fits key.slot) in
        let taken = count_entry s key value (Some None) s.vacant live is_some refl in
        let retires = count_entry s key value (Some None) s.vacant live is_retired refl in
        sound_changed _ _ _ _ _ (changes_entry s key value (Some None) s.vacant live) retired (retired + 1) room room sound
        (below_versions s key value retired room sound live)
        fits
        (λ none. absurd (cc))
        (λ _. omega (arith, fits, at_top))
        (omega (arith, taken, sound.within))
        (omega (arith, retires, sound.retired_is))
        (omega arith)
        sound.slots_fit
        sound.slots_stored

    pub removed_spent : s.top_version ≤ key.version → Removed key value s spent
    unfolding issued live_count retired_count
    removed_spent at_top =
        let fits : key.version ≤ s.top_version = rw (holds s key value live).latest at (sound.issued_fits key.slot) in
        let test : (key.version == s.top_version) ≡ true = grind (arith, common_steps, fits, at_top) in
        let lives : count_by is_live spent.slots + 1 ≡ count_by is_live s.slots = omega (arith, count_entry s key value (Some None) s.vacant live is_live refl) in
        let retires : count_by is_retired spent.slots ≡ count_by is_retired s.slots + 1 = omega (arith, count_entry s key value (Some None) s.vacant live is_retired refl) in
        record {
          was_live = live;
          live = at_entry s key value (Some None) s.vacant live;
          issues = λ slot. refl;
          counted = lives;
          retired = rw test retires;
          next = rw test (next_kept s spent refl refl refl (omega (arith, taken_split s.slots, taken_split spent.slots, lives, retires)) (still_taken s key value (Some None) s.vacant live refl));
          offers = offers_the_free spent (retired + 1) room (sound_spent at_top);
          settings = record { capacity = refl; top_version = refl };
        }

    -- so one more retired slot can be counted
    pub retired_fits : s.top_version ≤ key.version → retired + 1 < 2 ^ 32
    retired_fits at_top =
        let next = sound_spent at_top in
        omega (arith, next.retired_is, next.within, next.capacity_fits, taken_split spent.slots)

  -- a slab that took in a value at the offered slot, once there was room
  module _
      (old mid : SlotsState T) (retired room : ℕ) (sound : IsSound mid retired room) (has : HasRoom old mid)
      (value : T) (before after : Slab (Option T)) (place latest : ℕ)
      (slots : before.slots ≡ mid.slots) (vacant : before.vacant_key ≡ mid.vacant)
      (here : place ≡ before.vacant_key)
      (updates : Updates before after place (Some (Some value)))
      (same_room : after.capacity ≡ room)
      (read : latest ≡ get_or mid.versions place latest)
    where
      at_slot : place ≡ mid.vacant
      at_slot = here ∙ vacant

      below : place < length mid.versions
      below = omega (arith, at_slot, has.has_version)

      latest_is : latest ≡ get_or mid.versions place 0
      latest_is = read ∙ get_or_default_zero mid.versions place latest below

      was_free : get_or mid.slots place None ≡ None
      was_free = rw (← at_slot) at has.free

      version_fits : latest + 1 ≤ mid.top_version
      version_fits = omega (arith, latest_is, sound.free_below_top place was_free)

      abbrev pub issues_key : Key
      issues_key = record { slot = place; version = latest + 1 }

      offers : Offers old issues_key
      offers = offers_free old mid retired room sound has issues_key at_slot (ap (λ (n : ℕ). n + 1) latest_is)

      abbrev pub filled : SlotsState T
      filled = record {
        slots = after.slots;
        versions = set mid.versions place (latest + 1);
        vacant = after.vacant_key;
        capacity = mid.capacity;
        top_version = mid.top_version;
      }

      change : Changes mid filled place (latest + 1) (Some (Some value))
      change =
          record {
            entry_is = updates.changed;
            entries = λ other differs. updates.others other differs ∙ ap (λ (xs : List (Option (Option T))). get_or xs other None) slots;
            version_is = get_or-set_same mid.versions place (latest + 1) 0 below;
            versions = λ other differs. get_or-set_other mid.versions place other (latest + 1) 0 differs;
            capacity = refl;
            top_version = refl;
          }

      count_filled : (p : Option (Option T) → Bool) → p None ≡ false → count_by p after.slots ≡ count_by p old.slots + cond (p (Some (Some value))) 1 0
      count_filled p none =
          let nothing : ◌≡◌ {A = ℕ} (cond (p None) 1 0) 0 = rw none refl in
          let same = ap (λ (xs : List (Option (Option T))). count_by p xs) has.slots_kept in
          omega (arith, nothing, same, rw was_free at (count_changed _ _ _ _ _ change p none))

      at_kept : (s v : ℕ) → at mid s v ≡ at old s v
      unfolding at
      at_kept s v = rw (has.versions_kept s, has.slots_kept) refl

      pub sound_filled : IsSound filled retired after.capacity
      sound_filled =
          let as_long = length-set mid.versions place (latest + 1) in
          let same = ap (λ (xs : List (Option (Option T))). count_by is_some xs) has.slots_kept in
          let same_retired = ap (λ (xs : List (Option (Option T))). count_by is_retired xs) has.slots_kept in
          sound_changed _ _ _ _ _ change retired retired room after.capacity sound
          (omega (arith, as_long, below))
          version_fits
          (λ none. absurd (cc))
          (λ spent. absurd (cc))
          (omega (arith, count_filled is_some refl, same, room_for_free old mid retired room sound has, sound.slots_fit, fewer old mid retired room sound has))
          (omega (arith, count_filled is_retired refl, same_retired, sound.retired_is))
          (omega (arith, as_long))
          (omega (arith, as_long, sound.slots_fit))
          (omega (arith, as_long, sound.slots_stored, same_room))

      pub inserted_filled : Inserted value issues_key old filled
      unfolding issued live_count retired_count
      inserted_filled =
          record {
            offered = next_offered old issues_key offers;
            slot_in_range = omega (arith, below, sound.slots_fit, has.capacity_kept);
            version_is_next = offers.version_is;
            version_in_range = omega (arith, version_fits, has.top_version_kept);
            live = λ s v. at_changed _ _ _ _ _ change (λ other _. dead_free mid place was_free other) s v ∙ ap (λ (x : Option T). cond ((place == s) && (latest + 1 == v)) (Some value) x) (at_kept s v);
            issues = λ s. issued_changed _ _ _ _ _ change s ∙ ap (λ (n : ℕ). cond (place == s) (latest + 1) n) (has.versions_kept s);
            counted = count_filled is_live refl;
            retired = omega (arith, count_filled is_retired refl);
            offers = offers_the_free filled retired after.capacity sound_filled;
            settings = record { capacity = has.capacity_kept; top_version = has.top_version_kept };
          }

      pub never_falls : (slot : ℕ) → issued old slot ≤ issued filled slot
      unfolding issued
      never_falls slot = elim (cases_eq slot place) [
        | inl same ↦ rw same (omega (arith, change.version_is, latest_is, has.versions_kept place))
        | inr differs ↦ omega (arith, change.versions slot differs, has.versions_kept slot)
      ]
