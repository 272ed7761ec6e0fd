-- What the change of one slot changes in the state.
use Rattle.std.proofs.Common.{◌≡◌, ◌≢◌, ℕ, ◌+◌, ◌<◌, ◌≤◌, ◌==◌, ◌&&◌, Bool, false, length, get_or, Option, Some, None, is_some, cond, count_by, refl, sym, ◌∙◌, inl, inr, arith, unwrap_or}
use Rattle.std.proofs.lemmas.Bool.{cases_eq}
use Rattle.std.proofs.lemmas.Grind.{common_steps}
use Rattle.pt_slots.specs.State.{SlotsState, at, issued, is_retired}
use Rattle.pt_slots.specs.Sound.{IsSound}
use Rattle.pt_slots.proofs.Counts.{sum_by-changed}

module _ {T : Type 0} where
  -- one slot has this now, and all else is as it was
  pub record Changes (old new : SlotsState T) (slot version : ℕ) (entry : Option (Option T)) : Type 0 where
    pub entry_is : get_or new.slots slot None ≡ entry
    pub entries : (other : ℕ) → other ≢ slot → get_or new.slots other None ≡ get_or old.slots other None
    pub version_is : get_or new.versions slot 0 ≡ version
    pub versions : (other : ℕ) → other ≢ slot → get_or new.versions other 0 ≡ get_or old.versions other 0
    pub capacity : new.capacity ≡ old.capacity
    pub top_version : new.top_version ≡ old.top_version

  module _ (old new : SlotsState T) (slot version : ℕ) (entry : Option (Option T)) (changes : Changes old new slot version entry) where
    pub sound_changed : (retired retired' room room' : ℕ) → IsSound old retired room → slot < length new.versions → version ≤ old.top_version → (entry ≡ None → version < old.top_version) → (entry ≡ Some None → version ≡ old.top_version) → count_by is_some new.slots ≤ old.capacity → retired' ≡ count_by is_retired new.slots → length old.versions ≤ length new.versions → length new.versions ≤ old.capacity → length new.versions ≤ room' → IsSound new retired' room'
    sound_changed retired retired' room room' sound below fits left last within counted longer in_capacity in_room =
        record {
          capacity_fits = rw changes.capacity sound.capacity_fits;
          top_fits = rw changes.top_version sound.top_fits;
          within = rw changes.capacity within;
          retired_is = counted;
          none_past = λ k past. changes.entries k (λ e. omega (arith, e, past, below)) ∙ sound.none_past k (omega (arith, past, longer));
          slots_fit = rw changes.capacity in_capacity;
          slots_stored = in_room;
          retired_at_top = λ k is_retired. elim (cases_eq k slot) [
            | inl same ↦ rw (same, changes.version_is, changes.top_version) (last (sym changes.entry_is ∙ rw same at is_retired))
            | inr differs ↦ rw (changes.versions k differs, changes.top_version) (sound.retired_at_top k (sym (changes.entries k differs) ∙ is_retired))
          ];
          issued_fits = λ k. elim (cases_eq k slot) [
            | inl same ↦ rw (same, changes.version_is, changes.top_version) fits
            | inr differs ↦ rw (changes.versions k differs, changes.top_version) (sound.issued_fits k)
          ];
          free_below_top = λ k free. elim (cases_eq k slot) [
            | inl same ↦ rw (same, changes.version_is, changes.top_version) (left (sym changes.entry_is ∙ rw same at free))
            | inr differs ↦ rw (changes.versions k differs, changes.top_version) (sound.free_below_top k (sym (changes.entries k differs) ∙ free))
          ];
        }

    pub at_changed : ((other : ℕ) → other ≢ version → at old slot other ≡ None) → (s v : ℕ) → at new s v ≡ cond ((slot == s) && (version == v)) (unwrap_or entry None) (at old s v)
    unfolding at
    at_changed others s v = elim (cases_eq s slot) [
      | inl same ↦ elim (cases_eq v version) [
        | inl this ↦ grind (arith, common_steps, changes.entry_is, changes.version_is)
        | inr other ↦ grind (arith, common_steps, changes.version_is, others v other)
      ]
      | inr differs ↦ grind (arith, common_steps, changes.entries s differs, changes.versions s differs)
    ]

    pub issued_changed : (s : ℕ) → issued new s ≡ cond (slot == s) version (issued old s)
    unfolding issued
    issued_changed s = elim (cases_eq s slot) [
      | inl same ↦ grind (arith, common_steps, changes.version_is)
      | inr differs ↦ grind (arith, common_steps, changes.versions s differs)
    ]

    pub count_changed : (p : Option (Option T) → Bool) → p None ≡ false → count_by p new.slots + cond (p (get_or old.slots slot None)) 1 0 ≡ count_by p old.slots + cond (p entry) 1 0
    count_changed p none =
        let nothing : cond (p None) 1 0 ≡ 0 = rw none refl in
        rw changes.entry_is at (sum_by-changed (λ o. cond (p o) 1 0) None nothing old.slots new.slots slot changes.entries)
