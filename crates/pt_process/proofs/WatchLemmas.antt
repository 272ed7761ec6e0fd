-- Kept watches, as the keys of entries.
use Rattle.std.proofs.Common.{◌≡◌, ◌≢◌, ◌+◌, Bool, true, false, cond, ◌||◌, List, [], ◌∷◌, ◌++◌, length, refl, ap, ◌∙◌, arith, None}
use Rattle.std.specs.List.{list_any}
use Rattle.std.specs.Map.{lookup, remove_entry, keys_of}
use Rattle.pt_signal.specs.Values.{without_first}
use Rattle.pt_entries.proofs.MapLemmas.{none_from_test, any-keys_of}

module _ {K V : Type 0} (test : K → Bool) where
  remove_step : (b : Bool) (e : K × V) (es rest : List (K × V)) (keys : List K) → keys_of rest ≡ keys → keys_of (cond b es (e ∷ rest)) ≡ cond b (keys_of es) (e.0 ∷ keys)
  remove_step true e es rest keys h = refl
  remove_step false e es rest keys h = ap (λ ks. e.0 ∷ ks) h

  pub keys_of-remove_entry : (es : List (K × V)) → keys_of (remove_entry test es) ≡ without_first test (keys_of es)
  keys_of-remove_entry [] = refl
  keys_of-remove_entry (e ∷ es) = remove_step (test e.0) e es _ _ (keys_of-remove_entry es)

module _ {X : Type 0} (test : X → Bool) where
  same_step : (b : Bool) (x : X) (xs : List X) → b || list_any test xs ≡ false → (list_any test xs ≡ false → without_first test xs ≡ xs) → cond b xs (x ∷ without_first test xs) ≡ x ∷ xs
  same_step true x xs h below = cc
  same_step false x xs h below = ap (λ ys. x ∷ ys) (below h)

  -- nothing goes where nothing passes
  pub without_first_same : (xs : List X) → list_any test xs ≡ false → without_first test xs ≡ xs
  without_first_same [] h = refl
  without_first_same (x ∷ xs) h = same_step (test x) x xs h (without_first_same xs)

  shorter_step : (b : Bool) (x : X) (xs : List X) → b || list_any test xs ≡ true → (list_any test xs ≡ true → length (without_first test xs) + 1 ≡ length xs)
      → length (cond b xs (x ∷ without_first test xs)) + 1 ≡ length (x ∷ xs)
  shorter_step true x xs h below = omega arith
  shorter_step false x xs h below = omega (arith, below h)

  shorter : (xs : List X) → list_any test xs ≡ true → length (without_first test xs) + 1 ≡ length xs
  shorter [] h = cc
  shorter (x ∷ xs) h = shorter_step (test x) x xs h (shorter xs)

  pub without_first_other : (xs : List X) → list_any test xs ≡ true → without_first test xs ≢ xs
  without_first_other xs h same = omega (arith, shorter xs h, ap length same)

module _ {K V : Type 0} where
  pub keys_of-append : (es : List (K × V)) (k : K) (v : V) → keys_of (es ++ (k, v) ∷ []) ≡ keys_of es ++ k ∷ []
  keys_of-append [] k v = refl
  keys_of-append (e ∷ es) k v = ap (λ ks. e.0 ∷ ks) (keys_of-append es k v)

  -- a key that is not among the keys has no entry
  pub lookup-fresh : (test : K → Bool) (es : List (K × V)) → list_any test (keys_of es) ≡ false → lookup test es ≡ None
  lookup-fresh test es absent = none_from_test (lookup test es) (any-keys_of test es ∙ absent)
