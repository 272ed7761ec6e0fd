-- The first of a list that passes a test, and the list without it.
use Rattle.std.proofs.Common.{◌≡◌, Bool, true, false, cond, List, [], ◌∷◌, Some, filter, refl, ap}
use Rattle.std.specs.List.{find}
use Rattle.pt_signal.specs.Values.{without_first}

module _ {X : Type 0} (P : X → Bool) where
  -- the first of those that pass, and the rest of them
  pub filter_first : (xs : List X) (y : X) → find P xs ≡ Some y → filter P xs ≡ y ∷ filter P (without_first P xs)
  filter_first [] y h = absurd (cc)
  filter_first (x ∷ xs) y h = go (P x) refl h (filter_first xs y)
    where
      go : (b : Bool) → P x ≡ b → cond (P x) (Some x) (find P xs) ≡ Some y → (find P xs ≡ Some y → filter P xs ≡ y ∷ filter P (without_first P xs))
          → filter P (x ∷ xs) ≡ y ∷ filter P (without_first P (x ∷ xs))
      go true e h ih = let k : Some x ≡ Some y = rw e at h in let k2 : x ≡ y = cc in rw e (ap (λ z. z ∷ filter P xs) k2)
      go false e h ih = let k : find P xs ≡ Some y = rw e at h in simp e (ih k)

module _ {X : Type 0} (P Q : X → Bool) where
  -- what the one test takes out, the other does not keep
  pub filter_other : ((x : X) → Q x ≡ true → P x ≡ false) → (xs : List X) → filter P (without_first Q xs) ≡ filter P xs
  filter_other h [] = refl
  filter_other h (x ∷ xs) = go (Q x) refl (filter_other h xs)
    where
      go : (b : Bool) → Q x ≡ b → filter P (without_first Q xs) ≡ filter P xs → filter P (without_first Q (x ∷ xs)) ≡ filter P (x ∷ xs)
      go true e ih = rw (e, h x e)
      go false e ih = rw (e, ih)

  -- Q keeps all that P passes
  pub filter_wider : ((x : X) → P x ≡ true → Q x ≡ true) → (xs : List X) → filter Q (without_first P xs) ≡ without_first P (filter Q xs)
  filter_wider h [] = refl
  filter_wider h (x ∷ xs) = go (P x) (Q x) refl refl (filter_wider h xs)
    where
      go : (b c : Bool) → P x ≡ b → Q x ≡ c → filter Q (without_first P xs) ≡ without_first P (filter Q xs)
          → filter Q (without_first P (x ∷ xs)) ≡ without_first P (filter Q (x ∷ xs))
      go true c e f ih = simp (e, h x e)
      go false true e f ih = simp (e, f, ih)
      go false false e f ih = simp (e, f, ih)

  pub first_wider : ((x : X) → P x ≡ true → Q x ≡ true) → (xs : List X) → find P (filter Q xs) ≡ find P xs
  first_wider h [] = refl
  first_wider h (x ∷ xs) = go (P x) (Q x) refl refl (first_wider h xs)
    where
      go : (b c : Bool) → P x ≡ b → Q x ≡ c → find P (filter Q xs) ≡ find P xs → find P (filter Q (x ∷ xs)) ≡ find P (x ∷ xs)
      go true c e f ih = simp (e, h x e)
      go false true e f ih = simp (e, f, ih)
      go false false e f ih = simp (e, f, ih)
