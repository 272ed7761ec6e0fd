-- What a writer holds after one write and another.
use Rattle.std.proofs.Common.{◌≡◌, ℕ, ◌+◌, ◌<◌, List, [], ◌∷◌, ◌++◌, Option, Some, None, Result, Ok, Err, append_assoc, append-nil, ap, sym, subst, ◌∙◌, map, take, get_or, length}
use Rattle.std.specs.Prelude.{OnOk}
use Rattle.std.specs.List.{flat_map}
use Rattle.std.specs.Io.KnownBytes.{Appends}
use Rattle.std.proofs.lemmas.Grind.{flat_map-append}
use Rattle.std.proofs.lemmas.List.{map-append, take_more}

pub appends_then : (a b c : Option (List ℕ)) (x y : List ℕ) → Appends a b x → Appends b c y → Appends a c (x ++ y)
appends_then None b c x y h k = tt
appends_then (Some s) None c x y h k = absurd h
appends_then (Some s) (Some t) None x y h k = absurd k
appends_then (Some s) (Some t) (Some u) x y h k = k ∙ ap (λ z. z ++ y) h ∙ append_assoc s x y

-- and where the last write may fail
pub appends_last : {T E : Type 0} (r : Result T E) (a b c : Option (List ℕ)) (x y : List ℕ) → Appends a b x → OnOk r (Appends b c y) → OnOk r (Appends a c (x ++ y))
appends_last (Ok u) a b c x y h k = appends_then a b c x y h k
appends_last (Err e) a b c x y h k = tt

-- one line more
one_more : {X : Type 0} (f : X → List ℕ) (front : List X) (x : X) (a b c : Option (List ℕ)) → Appends a b (flat_map f front) → Appends b c (f x) → Appends a c (flat_map f (front ++ x ∷ []))
one_more f front x a b c before more =
    subst (Appends a c) (sym (flat_map-append f front (x ∷ []) ∙ ap (λ z. flat_map f front ++ z) (append-nil (f x)))) (appends_then a b c (flat_map f front) (f x) before more)

pub lines_more : {X : Type 0} (f : X → List ℕ) (xs : List X) (i : ℕ) (o : X) (a b c : Option (List ℕ)) → i < length xs → Appends a b (flat_map f (take i xs)) → Appends b c (f (get_or xs i o)) → Appends a c (flat_map f (take (i + 1) xs))
lines_more f xs i o a b c lt before more =
    subst (λ ys. Appends a c (flat_map f ys)) (sym (take_more xs i o lt)) (one_more f (take i xs) (get_or xs i o) a b c before more)

pub told_more : {X Y : Type 0} (f : X → List ℕ) (g : Y → X) (ys : List Y) (i : ℕ) (y : Y) (a b c : Option (List ℕ)) → i < length ys → get_or ys i y ≡ y → Appends a b (flat_map f (map g (take i ys))) → Appends b c (f (g y)) → Appends a c (flat_map f (map g (take (i + 1) ys)))
told_more f g ys i y a b c lt is before more =
    let on : map g (take (i + 1) ys) ≡ map g (take i ys) ++ g y ∷ [] =
    ap (map g) (take_more ys i y lt) ∙ map-append g (take i ys) (get_or ys i y ∷ []) ∙ ap (λ z. map g (take i ys) ++ g z ∷ []) is in
    subst (λ xs. Appends a c (flat_map f xs)) (sym on) (one_more f (map g (take i ys)) (g y) a b c before more)
