-- Lemmas on lists: a function of an element that is read or written.
use Rattle.std.proofs.Common.{◌≡◌, ◌≢◌, ℕ, ◌<◌, List, [], ◌∷◌, ◌++◌, map, length, get_or, set, sym, ◌∙◌, ap}
use Rattle.std.proofs.lemmas.List.{map-set, set-get_or, get_or-map, length-map, get_or-set_same, get_or-set_other}

-- f of the element `old` that was read at i
pub get_or-map_read : {X Y : Type 0} (f : X → Y) (xs : List X) (i : ℕ) (old : X) (e : Y) → i < length xs → old ≡ get_or xs i old → get_or (map f xs) i e ≡ f old
get_or-map_read f xs i old e l r = get_or-map f xs i old e l ∙ ap f (sym r)

-- a write to the element `old` that leaves f of it
pub map-set_same : {X Y : Type 0} (f : X → Y) (xs : List X) (i : ℕ) (old x : X) → i < length xs → old ≡ get_or xs i old → f x ≡ f old → map f (set xs i x) ≡ map f xs
map-set_same f xs i old x l r e =
    map-set f xs i x ∙ ap (set (map f xs) i) (e ∙ sym (get_or-map_read f xs i old (f x) l r)) ∙ set-get_or (map f xs) i (f x)

-- a write to the element `old` that puts more at the end of its list, and one that puts one more there
pub map-set_longer : {X Y : Type 0} (f : X → List Y) (xs : List X) (i : ℕ) (old x : X) (more : List Y) → i < length xs → old ≡ get_or xs i old → f x ≡ f old ++ more → map f (set xs i x) ≡ set (map f xs) i (get_or (map f xs) i [] ++ more)
map-set_longer f xs i old x more l r e =
    map-set f xs i x ∙ ap (set (map f xs) i) (e ∙ ap (λ ys. ys ++ more) (sym (get_or-map_read f xs i old [] l r)))

pub map-set_more : {X Y : Type 0} (f : X → List Y) (xs : List X) (i : ℕ) (old x : X) (y : Y) → i < length xs → old ≡ get_or xs i old → f x ≡ f old ++ y ∷ [] → map f (set xs i x) ≡ set (map f xs) i (get_or (map f xs) i [] ++ y ∷ [])
map-set_more f xs i old x y l r e = map-set_longer f xs i old x (y ∷ []) l r e

-- what f gives at the place of a write, and at another
pub get_or-map_set_same : {X Y : Type 0} (f : X → Y) (xs : List X) (i : ℕ) (x : X) (e : Y) → i < length xs → get_or (map f (set xs i x)) i e ≡ f x
get_or-map_set_same f xs i x e l = rw map-set (get_or-set_same (map f xs) i (f x) e (rw length-map l))

pub get_or-map_set_other : {X Y : Type 0} (f : X → Y) (xs : List X) (i k : ℕ) (x : X) (e : Y) → k ≢ i → get_or (map f (set xs i x)) k e ≡ get_or (map f xs) k e
get_or-map_set_other f xs i k x e n = rw map-set (get_or-set_other (map f xs) i k (f x) e n)
