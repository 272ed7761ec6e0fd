-- Of a list that grows at its front, the next that is to be read.
use Rattle.std.proofs.Common.{◌≡◌, ◌<◌, List, [], ◌∷◌, ◌++◌, length, reverse, get_or, refl, sym, ap, ◌∙◌, length-append, arith}
use Rattle.std.proofs.lemmas.List.{reverse-append, reverse-reverse, length-reverse, get_or-append-add}

-- the oldest of those that were not read
pub record Oldest {X : Type 0} (more : List X) (seen : List X) (x : X) : Type 0 where
  pub front : List X
  pub is : more ≡ front ++ x ∷ []

oldest_of : {X : Type 0} (more seen r : List X) (x : X) → reverse more ≡ r → x ≡ get_or (reverse (more ++ seen)) (length seen) x → 0 < length r → Oldest more seen x
oldest_of more seen [] x e at some = absurd (omega (arith, some))
oldest_of {X} more seen (y ∷ ys) x e at some = record {
  front = reverse ys;
  is = sym (reverse-reverse more) ∙ ap reverse e ∙ reverse-append (y ∷ []) ys ∙ ap (λ (z : X). reverse ys ++ z ∷ []) (sym x_is);
}
  where
    x_is : x ≡ y
    x_is =
        at
        ∙ ap (λ (l : List X). get_or l (length seen) x) (reverse-append more seen ∙ ap (λ (l : List X). reverse seen ++ l) e)
        ∙ ap (λ n. get_or (reverse seen ++ y ∷ ys) n x) (let l = length-reverse seen in omega (arith, l))
        ∙ get_or-append-add (reverse seen) (y ∷ ys) 0 x

pub oldest : {X : Type 0} (more seen : List X) (x : X) → length seen < length (more ++ seen) → x ≡ get_or (reverse (more ++ seen)) (length seen) x → Oldest more seen x
oldest more seen x within at = oldest_of more seen (reverse more) x refl at (omega (arith, within, length-append more seen, length-reverse more))
