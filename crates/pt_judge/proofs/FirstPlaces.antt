-- The first of a list that passes a test, by its place.
use Rattle.std.proofs.Common.{◌≡◌, suc, ◌<◌, ◌≤◌, Bool, true, false, cond, Some, None, is_some, List, [], ◌∷◌, length, get_or, set, refl, ap, arith}
use Rattle.std.specs.List.{find, remove, list_any}
use Rattle.std.specs.Option.{option_map}
use Rattle.std.specs.Map.{lookup, remove_entry, set_value}
use Rattle.pt_signal.specs.Values.{without_first}
use Rattle.pt_judge.specs.Places.{first_place}

module _ {X : Type 0} (test : X → Bool) where
  pub removed : (xs : List X) → remove xs (first_place test xs) ≡ without_first test xs
  removed [] = refl
  removed (x ∷ xs) = go (test x) refl (removed xs)
    where
      go : (b : Bool) → test x ≡ b → remove xs (first_place test xs) ≡ without_first test xs → remove (x ∷ xs) (first_place test (x ∷ xs)) ≡ without_first test (x ∷ xs)
      go true e ih = rw e refl
      go false e ih = rw e (ap (λ ys. x ∷ ys) ih)

  pub none_removed : (xs : List X) → length xs ≤ first_place test xs → xs ≡ without_first test xs
  none_removed [] h = refl
  none_removed (x ∷ xs) h = go (test x) refl h (none_removed xs)
    where
      go : (b : Bool) → test x ≡ b → length (x ∷ xs) ≤ first_place test (x ∷ xs) → (length xs ≤ first_place test xs → xs ≡ without_first test xs) → x ∷ xs ≡ without_first test (x ∷ xs)
      go true e k ih = let l : suc (length xs) ≤ 0 = rw e at k in absurd (omega arith)
      go false e k ih = let l : suc (length xs) ≤ suc (first_place test xs) = rw e at k in rw e (ap (λ ys. x ∷ ys) (ih (omega arith)))

  pub found : (xs : List X) (y : X) → first_place test xs < length xs → y ≡ get_or xs (first_place test xs) y → Some y ≡ find test xs
  found [] y h k = absurd (omega arith)
  found (x ∷ xs) y h k = go (test x) refl h k (found xs y)
    where
      go : (b : Bool) → test x ≡ b → first_place test (x ∷ xs) < length (x ∷ xs) → y ≡ get_or (x ∷ xs) (first_place test (x ∷ xs)) y
          → (first_place test xs < length xs → y ≡ get_or xs (first_place test xs) y → Some y ≡ find test xs) → Some y ≡ find test (x ∷ xs)
      go true e l m ih = let n : y ≡ x = rw e at m in rw e (ap (λ z. Some z) n)
      go false e l m ih = let o : suc (first_place test xs) < suc (length xs) = rw e at l in let n : y ≡ get_or xs (first_place test xs) y = rw e at m in rw e (ih (omega arith) n)

  pub none_found : (xs : List X) → length xs ≤ first_place test xs → None ≡ find test xs
  none_found [] h = refl
  none_found (x ∷ xs) h = go (test x) refl h (none_found xs)
    where
      go : (b : Bool) → test x ≡ b → length (x ∷ xs) ≤ first_place test (x ∷ xs) → (length xs ≤ first_place test xs → None ≡ find test xs) → None ≡ find test (x ∷ xs)
      go true e k ih = let l : suc (length xs) ≤ 0 = rw e at k in absurd (omega arith)
      go false e k ih = let l : suc (length xs) ≤ suc (first_place test xs) = rw e at k in rw e (ih (omega arith))

pub any_found : {X : Type 0} (test : X → Bool) (xs : List X) → is_some (find test xs) ≡ list_any test xs
any_found test [] = refl
any_found test (x ∷ xs) = go (test x) refl (any_found test xs)
  where
    go : (b : Bool) → test x ≡ b → is_some (find test xs) ≡ list_any test xs → is_some (find test (x ∷ xs)) ≡ list_any test (x ∷ xs)
    go true e ih = rw e refl
    go false e ih = rw e ih

module _ {K V : Type 0} (test : K → Bool) where
  abbrev pub at_key : K × V → Bool
  at_key e = test e.0

  pub remove_entry_first : (es : List (K × V)) → without_first at_key es ≡ remove_entry test es
  remove_entry_first [] = refl
  remove_entry_first (e ∷ es) = ap (λ z. cond (test e.0) es (e ∷ z)) (remove_entry_first es)

  pub lookup_first : (es : List (K × V)) → option_map (λ e. e.1) (find at_key es) ≡ lookup test es
  lookup_first [] = refl
  lookup_first (e ∷ es) = go (test e.0) refl (lookup_first es)
    where
      go : (b : Bool) → test e.0 ≡ b → option_map (λ e. e.1) (find at_key es) ≡ lookup test es → option_map (λ e. e.1) (find at_key (e ∷ es)) ≡ lookup test (e ∷ es)
      go true k ih = rw k refl
      go false k ih = rw k ih

  pub set_at_first : (es : List (K × V)) (k : K) (v w : V) → first_place at_key es < length es → (k, v) ≡ get_or es (first_place at_key es) (k, v)
      → set es (first_place at_key es) (k, w) ≡ set_value test es w
  set_at_first [] k v w h m = absurd (omega arith)
  set_at_first (e ∷ es) k v w h m = go (test e.0) refl h m (set_at_first es k v w)
    where
      go : (b : Bool) → test e.0 ≡ b → first_place at_key (e ∷ es) < length (e ∷ es) → (k, v) ≡ get_or (e ∷ es) (first_place at_key (e ∷ es)) (k, v)
          → (first_place at_key es < length es → (k, v) ≡ get_or es (first_place at_key es) (k, v) → set es (first_place at_key es) (k, w) ≡ set_value test es w)
          → set (e ∷ es) (first_place at_key (e ∷ es)) (k, w) ≡ set_value test (e ∷ es) w
      go true f l n ih = let o : (k, v) ≡ e = rw f at n in rw f (ap (λ (z : K × V). (z.0, w) ∷ es) o)
      go false f l n ih =
          let p : suc (first_place at_key es) < suc (length es) = rw f at l in
          let o : (k, v) ≡ get_or es (first_place at_key es) (k, v) = rw f at n in
          rw f (ap (λ z. e ∷ z) (ih (omega arith) o))

  pub none_set : (es : List (K × V)) (w : V) → length es ≤ first_place at_key es → es ≡ set_value test es w
  none_set [] w h = refl
  none_set (e ∷ es) w h = go (test e.0) refl h (none_set es w)
    where
      go : (b : Bool) → test e.0 ≡ b → length (e ∷ es) ≤ first_place at_key (e ∷ es) → (length es ≤ first_place at_key es → es ≡ set_value test es w) → e ∷ es ≡ set_value test (e ∷ es) w
      go true f k ih = let l : suc (length es) ≤ 0 = rw f at k in absurd (omega arith)
      go false f k ih = let l : suc (length es) ≤ suc (first_place at_key es) = rw f at k in rw f (ap (λ z. e ∷ z) (ih (omega arith)))
