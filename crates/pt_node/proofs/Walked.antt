-- A list that is changed from its front on, one after the other.
use Rattle.std.proofs.Common.{◌≡◌, ℕ, zero, suc, ◌<◌, List, [], ◌∷◌, ◌++◌, length, map, take, drop, set, get_or, refl, ap, ◌∙◌, arith}

module _ {X : Type 0} (f : X → X) where
  -- one more is changed
  pub walked : (xs : List X) (k : ℕ) (x y : X) → k < length xs → x ≡ get_or (map f (take k xs) ++ drop k xs) k x → y ≡ f x
      → set (map f (take k xs) ++ drop k xs) k y ≡ map f (take (suc k) xs) ++ drop (suc k) xs
  walked [] k x y h is gives = absurd (omega arith)
  walked (z ∷ xs) zero x y h is gives = ap (λ w. w ∷ xs) (gives ∙ ap f is)
  walked (z ∷ xs) (suc k) x y h is gives = ap (λ w. f z ∷ w) (walked xs k x y (omega arith) is gives)

  -- the next one is as it was
  pub unwalked : (xs : List X) (k : ℕ) (x : X) → k < length xs → get_or (map f (take k xs) ++ drop k xs) k x ≡ get_or xs k x
  unwalked [] k x h = absurd (omega arith)
  unwalked (z ∷ xs) zero x h = refl
  unwalked (z ∷ xs) (suc k) x h = unwalked xs k x (omega arith)
