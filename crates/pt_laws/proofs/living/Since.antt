-- What stands in a history was made and not undone since then.
use Rattle.std.proofs.Common.{◌≡◌, Bool, true, false, not, ◌⊎◌, inl, inr, ⊎_elim, List, [], ◌∷◌, ◌++◌, filter, refl, sym, ap, subst, arith, append-nil}
use Rattle.std.specs.Prelude.{Contains, ◌↔◌}
use Rattle.std.proofs.lemmas.Bool.{both_ways}
use Rattle.std.proofs.lemmas.List.Elements.{Contains-append_left, Contains-append_right, Contains-append_cases, Contains-push_cases}
use Rattle.pt_events.specs.declared.event.Event.{Event}
use Rattle.pt_events.specs.History.{Past}
use Rattle.pt_laws.specs.Since.{standing, IsUntouched, StandsSince}

-- elements of a filtered list ----------------------------------------------------------------------

module _ {X : Type 0} where
  no_element : (x : X) → Contains [] x → ⊥
  no_element x h = let lt = h.1 in omega arith

  pub element_cases : (y : X) (ys : List X) (x : X) → Contains (y ∷ ys) x → (y ≡ x) ⊎ Contains ys x
  element_cases y ys x h =
      ⊎_elim (λ a. ⊎_elim (λ z. absurd (no_element x z)) inl (Contains-push_cases [] y x a)) inr (Contains-append_cases (y ∷ []) ys x h)

  first_element : (y : X) (ys : List X) (x : X) → y ≡ x → Contains (y ∷ ys) x
  first_element y ys x e = (0, omega arith, e)

  module _ (t : X → Bool) where
    pub filter_cases : (xs : List X) (x : X) → Contains (filter t xs) x → Contains xs x × (t x ≡ true)
    filter_cases [] x h = absurd (no_element x h)
    filter_cases (y ∷ ys) x h = go (t y) refl h (filter_cases ys x)
      where
        go : (b : Bool) → t y ≡ b → Contains (filter t (y ∷ ys)) x → (Contains (filter t ys) x → Contains ys x × (t x ≡ true)) → Contains (y ∷ ys) x × (t x ≡ true)
        go true e h ih =
            let k : Contains (y ∷ filter t ys) x = rw e at h in
            ⊎_elim (λ s. (first_element y ys x s, subst (λ z. t z ≡ true) s e)) (λ j. (Contains-append_right (y ∷ []) ys x (ih j).0, (ih j).1)) (element_cases y (filter t ys) x k)
        go false e h ih = let k : Contains (filter t ys) x = rw e at h in (Contains-append_right (y ∷ []) ys x (ih k).0, (ih k).1)

    pub filter_has : (xs : List X) (x : X) → Contains xs x → t x ≡ true → Contains (filter t xs) x
    filter_has [] x h p = absurd (no_element x h)
    filter_has (y ∷ ys) x h p = go (t y) refl (element_cases y ys x h) (filter_has ys x)
      where
        go : (b : Bool) → t y ≡ b → (y ≡ x) ⊎ Contains ys x → (Contains ys x → t x ≡ true → Contains (filter t ys) x) → Contains (filter t (y ∷ ys)) x
        go true e (inl s) ih = rw e (first_element y (filter t ys) x s)
        go true e (inr k) ih = rw e (Contains-append_right (y ∷ []) (filter t ys) x (ih k p))
        go false e (inl s) ih = absurd (both_ways (t x) (subst (λ z. t z ≡ false) s e) p)
        go false e (inr k) ih = rw e (ih k p)

module _ {X : Type 0} (first : List X) (makes : Past → Event → List X) (undoes : Past → Event → X → Bool) where
  not_undone : (b : Bool) → not b ≡ true → b ≡ false
  not_undone true h = sym h
  not_undone false h = refl

  pub was_made : (past : Past) (x : X) → Contains (standing first makes undoes past) x → StandsSince first makes undoes past x
  was_made [] x h = inr (h, tt)
  was_made (e ∷ past) x h =
      ⊎_elim (old (was_made past x)) (λ k. inl (record { later = []; event = e; before = past; split = refl; made = k; untouched = tt }))
      (Contains-append_cases (filter (λ x. not (undoes past e x)) (standing first makes undoes past)) (makes past e) x h)
    where
      longer : undoes past e x ≡ false → StandsSince first makes undoes past x → StandsSince first makes undoes (e ∷ past) x
      longer u (inl r) = inl (record {
        later = e ∷ r.later;
        event = r.event;
        before = r.before;
        split = ap (λ z. e ∷ z) r.split;
        made = r.made;
        untouched = (subst (λ z. undoes z e x ≡ false) r.split u, r.untouched);
      })
      longer u (inr k) = inr (k.0, (subst (λ z. undoes z e x ≡ false) (sym (append-nil past)) u, k.1))

      old : (Contains (standing first makes undoes past) x → StandsSince first makes undoes past x) → Contains (filter (λ x. not (undoes past e x)) (standing first makes undoes past)) x → StandsSince first makes undoes (e ∷ past) x
      old ih k = let p = filter_cases (λ x. not (undoes past e x)) (standing first makes undoes past) x k in longer (not_undone (undoes past e x) p.1) (ih p.0)

  still_there : (x : X) (later before : Past) → Contains (standing first makes undoes before) x → IsUntouched first makes undoes x later before → Contains (standing first makes undoes (later ++ before)) x
  still_there x [] before h u = h
  still_there x (e ∷ later) before h u =
      Contains-append_left (filter (λ x. not (undoes (later ++ before) e x)) (standing first makes undoes (later ++ before))) (makes (later ++ before) e) x
      (filter_has (λ x. not (undoes (later ++ before) e x)) (standing first makes undoes (later ++ before)) x (still_there x later before h u.1) (ap not u.0))

  pub is_there : (past : Past) (x : X) → StandsSince first makes undoes past x → Contains (standing first makes undoes past) x
  is_there past x (inl r) =
      subst (λ z. Contains (standing first makes undoes z) x) (sym r.split)
      (still_there x r.later (r.event ∷ r.before)
      (Contains-append_right (filter (λ x. not (undoes r.before r.event x)) (standing first makes undoes r.before)) (makes r.before r.event) x r.made) r.untouched)
  is_there past x (inr k) = subst (λ z. Contains (standing first makes undoes z) x) (append-nil past) (still_there x past [] k.0 k.1)

  pub stands_since : (past : Past) (x : X) → Contains (standing first makes undoes past) x ↔ StandsSince first makes undoes past x
  stands_since past x = (was_made past x, is_there past x)
