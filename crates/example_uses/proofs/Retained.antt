-- What a slab keeps by `retain`, where the closure only looks at each value.
use Rattle.std.proofs.Common.{◌≡◌, ℕ, zero, suc, ◌+◌, Bool, true, false, not, cond, Option, Some, None, List, [], ◌∷◌, map, slice_index_or, MutBor, refl, sym, ap, ◌∙◌, subst}
use Rattle.slab.specs.Slab.{RetainsFrom}

module _ {T : Type 0} (gone : T → Bool) where
  abbrev pub slot_left : Option T → Option T
  slot_left None = None
  slot_left (Some x) = cond (gone x) None (Some x)

  slot_said : (keep : Bool) (x new : T) → keep ≡ not (gone x) → new ≡ x → cond keep (Some new) None ≡ slot_left (Some x)
  slot_said keep x new e same = rw (e, same) (at_test (gone x))
    where
      at_test : (b : Bool) → cond (not b) (Some x) None ≡ cond b None (Some x)
      at_test true = refl
      at_test false = refl

  module _ {F : Type 0} (step : F → ℕ → MutBor T → Bool → MutBor T → F → Type 0) (first : F) (says : (key : ℕ) (shown : MutBor T) (keep : Bool) (left : MutBor T) (next : F) → step first key shown keep left next → (keep ≡ not (gone shown.now)) × (next ≡ first) × (left.now ≡ shown.now)) where
    retained_slots : (f : F) (key : ℕ) (old kept : List (Option T)) → f ≡ first → RetainsFrom step f key old kept → kept ≡ map slot_left old
    retained_slots f key [] kept same h = h
    retained_slots f key (None ∷ rest) kept same (later, is, more) = is ∙ ap (λ xs. None ∷ xs) (retained_slots f (key + 1) rest later same more)
    retained_slots f key (Some x ∷ rest) kept same (keep, new, next, called, later, is, more) =
        let said = says key called.shown keep called.left next (subst (λ g. step g key called.shown keep called.left next) same called.called) in
        let slot : cond keep (Some new) None ≡ slot_left (Some x) =
        slot_said keep x new (said.0 ∙ ap (λ y. not (gone y)) called.shows) (sym called.leaves ∙ said.2 ∙ called.shows) in
        is ∙ ap (λ s. s ∷ later) slot ∙ ap (λ xs. slot_left (Some x) ∷ xs) (retained_slots next (key + 1) rest later said.1 more)

    slot_at : (xs : List (Option T)) (key : ℕ) → slice_index_or (map slot_left xs) key None ≡ slot_left (slice_index_or xs key None)
    slot_at [] key = refl
    slot_at (x ∷ xs) zero = refl
    slot_at (x ∷ xs) (suc key) = slot_at xs key

    -- each value stays that is not gone
    pub retained : (old kept : List (Option T)) → RetainsFrom step first 0 old kept → (key : ℕ) → slice_index_or kept key None ≡ slot_left (slice_index_or old key None)
    retained old kept h key = ap (λ xs. slice_index_or xs key None) (retained_slots first 0 old kept refl h) ∙ slot_at old key
