-- A list that a function changes in place, one item after the other.
use Rattle.std.proofs.Common.{◌≡◌, ℕ, zero, suc, ◌+◌, ◌<◌, List, [], ◌∷◌, ◌++◌, refl, ap, sym, ◌∙◌, get_or, map, set, take, drop, length, add-one, arith}
use Rattle.std.proofs.lemmas.Grind.{common_steps}

one_mapped : {A : Type 0} (f : A → A) (i : ℕ) (xs : List A) (d : A) → i < length xs → set (map f (take i xs) ++ drop i xs) i (f (get_or (map f (take i xs) ++ drop i xs) i d)) ≡ map f (take (suc i) xs) ++ drop (suc i) xs
one_mapped f i [] d h = absurd (omega (arith, h))
one_mapped f zero (x ∷ xs) d h = refl
one_mapped f (suc i) (x ∷ xs) d h = ap (λ rest. f x ∷ rest) (one_mapped f i xs d (omega (arith, h)))

-- one more item is changed
pub next_mapped : {A : Type 0} (f : A → A) (i : ℕ) (xs now : List A) (new d : A) → i < length xs → now ≡ map f (take i xs) ++ drop i xs → new ≡ f (get_or now i d) → set now i new ≡ map f (take (i + 1) xs) ++ drop (i + 1) xs
next_mapped f i xs now new d h is one =
    ap (λ x. set now i x) one
    ∙ ap (λ them. set them i (f (get_or them i d))) is
    ∙ one_mapped f i xs d h
    ∙ ap (λ n. map f (take n xs) ++ drop n xs) (sym (add-one i))

-- what is written over a whole list is that list
pub all_written : {A : Type 0} (n : ℕ) (old new : List A) → n ≡ length old → length new ≡ length old → take n (new ++ drop (length new) old) ≡ new
all_written n old new whole same = grind (arith, common_steps)
