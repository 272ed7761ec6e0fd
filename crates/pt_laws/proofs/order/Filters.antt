-- Lists without what passes a test.
use Rattle.std.proofs.Common.{◌≡◌, ◌+◌, ◌≤◌, Bool, true, false, not, List, [], ◌∷◌, ◌++◌, filter, refl, sym, ap, ◌∙◌, arith, append-nil}
use Rattle.std.specs.Map.{remove_entry}
use Rattle.pt_signal.specs.Values.{without_first}
use Rattle.pt_events.specs.Counting.{one_if, count}

module _ {X : Type 0} where
  pub filter_all : (xs : List X) → filter (λ x. true) xs ≡ xs
  filter_all [] = refl
  filter_all (x ∷ xs) = ap (λ z. x ∷ z) (filter_all xs)

  pub filter_nothing : (xs : List X) → filter (λ x. false) xs ≡ []
  filter_nothing [] = refl
  filter_nothing (x ∷ xs) = filter_nothing xs

  -- all stay and none joins
  pub all_stay : (xs : List X) → xs ≡ filter (λ x. true) xs ++ []
  all_stay xs = sym (append-nil _ ∙ filter_all xs)

  module _ (T : X → Bool) where
    pub none_passes : (xs : List X) → count T xs ≡ 0 → filter (λ x. not (T x)) xs ≡ xs
    none_passes [] h = refl
    none_passes (x ∷ xs) h = go (T x) refl h (none_passes xs)
      where
        go : (b : Bool) → T x ≡ b → one_if (T x) + count T xs ≡ 0 → (count T xs ≡ 0 → filter (λ x. not (T x)) xs ≡ xs) → filter (λ x. not (T x)) (x ∷ xs) ≡ x ∷ xs
        go true e h ih = let k : 1 + count T xs ≡ 0 = rw e at h in absurd (omega arith)
        go false e h ih = let k : 0 + count T xs ≡ 0 = rw e at h in rw e (ap (λ z. x ∷ z) (ih (omega arith)))

    -- where one passes at most, the list without the first that passes is the list without all that pass
    pub one_passes : (xs : List X) → count T xs ≤ 1 → without_first T xs ≡ filter (λ x. not (T x)) xs
    one_passes [] h = refl
    one_passes (x ∷ xs) h = go (T x) refl h (one_passes xs)
      where
        go : (b : Bool) → T x ≡ b → one_if (T x) + count T xs ≤ 1 → (count T xs ≤ 1 → without_first T xs ≡ filter (λ x. not (T x)) xs) → without_first T (x ∷ xs) ≡ filter (λ x. not (T x)) (x ∷ xs)
        go true e h ih = let k : 1 + count T xs ≤ 1 = rw e at h in rw e (sym (none_passes xs (omega arith)))
        go false e h ih = let k : 0 + count T xs ≤ 1 = rw e at h in rw e (ap (λ z. x ∷ z) (ih (omega arith)))

-- the removal of an entry is that of the first whose key passes
pub remove_entry-first : {K X : Type 0} (T : K → Bool) (es : List (K × X)) → remove_entry T es ≡ without_first (λ e. T e.0) es
remove_entry-first T [] = refl
remove_entry-first T (e ∷ es) = rw (remove_entry-first T es) refl
