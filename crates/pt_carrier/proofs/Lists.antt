-- Lemmas on lists.
use Rattle.std.proofs.Common.{◌≡◌, ℕ, ◌+◌, ◌<◌, arith, below_more, List, Vec, [], ◌∷◌, ◌++◌, map, length, take, drop, get_or, set, sym, ◌∙◌, ap}
use Rattle.std.proofs.lemmas.List.{map-append, length-map, get_or_append_left, get_or_push, set-append_left, set-append_right, set_comm, length-set, get_or-append_right, drop_all, append-nil, take_all}
use Rattle.std.proofs.lemmas.Simd.{map-map}
use Rattle.pt_signal.proofs.Lists.{get_or-map_read}
use Rattle.pt_carrier.specs.Node.{lists}
use mathlib.Core.List.{IsPrefix}

pub IsPrefix-map : {X Y : Type 0} (f : X → Y) (xs ys : List X) → IsPrefix xs ys → IsPrefix (map f xs) (map f ys)
IsPrefix-map f xs ys h = (map f h.0, sym (map-append f xs h.0) ∙ ap (map f) h.1)

-- lists with equal parts are equally long
pub length-map_same : {X Y : Type 0} (f : X → Y) (xs ys : List X) → map f xs ≡ map f ys → length xs ≡ length ys
length-map_same f xs ys e = sym (length-map xs f) ∙ ap length e ∙ length-map ys f

-- lists that are equal through f are so through g after f
pub map-through : {X Y Z : Type 0} (f : X → Y) (g : Y → Z) (xs ys : List X) → map f xs ≡ map f ys → map (λ x. g (f x)) xs ≡ map (λ x. g (f x)) ys
map-through f g xs ys e = sym (map-map g f xs) ∙ ap (map g) e ∙ map-map g f ys

-- a fact of each element, by its place, with one more element at the end
pub each_push : {X : Type 0} (P : ℕ → X → Type 0) (xs : List X) (y d : X) (n : ℕ) → length xs ≡ n → ((k : ℕ) → k < n → P k (get_or xs k d)) → P n y → (k : ℕ) → k < n + 1 → P k (get_or (xs ++ y ∷ []) k d)
each_push P xs y d n e before here k l =
    below_more (λ k. P k (get_or (xs ++ y ∷ []) k d)) n
    (λ k h. rw (get_or_append_left xs (y ∷ []) d k (omega arith)) (before k h))
    (rw (get_or_push xs y d n e) here) k l

-- the list of the vector that was read at i
pub lists_read : {X A : Type 0} (vs : List (Vec X A)) (i : ℕ) (v : Vec X A) → i < length vs → v ≡ get_or vs i v → v.items ≡ get_or (lists vs) i []
lists_read {X} {A} vs i v l r = sym (get_or-map_read (λ (w : Vec X A). w.items) vs i v [] l r)

-- a list in two parts, the second of which begins at k
module _ {X : Type 0} (front back : List X) (k : ℕ) (cut : length front ≡ k) where
  begins : (y : X) → set (front ++ back) k y ≡ front ++ set back 0 y
  begins y = set-append_right front back k k y cut (omega arith) ∙ ap (λ n. front ++ set back n y) (omega arith)

  -- writes to both parts, in either order
  pub set_parts : (j : ℕ) (x y : X) → j < k → set front j x ++ set back 0 y ≡ set (set (front ++ back) j x) k y
  set_parts j x y l =
      sym (set-append_right (set front j x) back k k y (length-set front j x ∙ cut) (omega arith) ∙ ap (λ n. set front j x ++ set back n y) (omega arith))
      ∙ ap (λ zs. set zs k y) (sym (set-append_left front back j x (omega arith)))

  pub set_parts_back : (j : ℕ) (x y : X) → j < k → set front j x ++ set back 0 y ≡ set (set (front ++ back) k y) j x
  set_parts_back j x y l = set_parts j x y l ∙ set_comm (front ++ back) j k x y (λ e. omega arith)

  -- reads from both parts
  pub front_read : (j : ℕ) (x : X) → j < k → x ≡ get_or front j x → x ≡ get_or (front ++ back) j x
  front_read j x l is = is ∙ sym (get_or_append_left front back x j (omega arith))

  pub back_read : (x : X) → x ≡ get_or back 0 x → x ≡ get_or (front ++ back) k x
  back_read x is = is ∙ sym (get_or-append_right front back k k x cut (omega arith) ∙ ap (λ n. get_or back n x) (omega arith))

-- a list that is written over whole
pub written : {X : Type 0} (xs new : List X) (n : ℕ) → length new ≡ length xs → n ≡ length xs → take n (new ++ drop (length new) xs) ≡ new
written xs new n e f = rw (drop_all (length new) xs (omega arith), append-nil) (take_all n new (omega arith))
