-- What holds of each element of a list.
use Rattle.std.proofs.Common.{◌≡◌, Bool, true, false, ⊎_elim, refl, List, [], ◌∷◌, ◌++◌, Some, map, subst, arith}
use Rattle.std.specs.Prelude.{⊤, Contains}
use Rattle.std.specs.List.{find}
use Rattle.pt_signal.specs.Values.{without_first}
use Rattle.pt_events.proofs.Phases.{each_branch}
use Rattle.pt_laws.proofs.living.Since.{element_cases}

abbrev pub Each : {X : Type 0} → (X → Type 0) → List X → Type 0
Each P [] = ⊤
Each P (x ∷ xs) = P x × Each P xs

module _ {X : Type 0} (P : X → Type 0) where
  pub each-append : (xs ys : List X) → Each P xs → Each P ys → Each P (xs ++ ys)
  each-append [] ys h k = k
  each-append (x ∷ xs) ys h k = (h.0, each-append xs ys h.1 k)

  pub each-without : (test : X → Bool) (xs : List X) → Each P xs → Each P (without_first test xs)
  each-without test [] h = tt
  each-without test (x ∷ xs) h = each_branch (Each P) (test x) xs (x ∷ without_first test xs) h.1 (h.0, each-without test xs h.1)

  pub each-found : (test : X → Bool) (xs : List X) (y : X) → find test xs ≡ Some y → Each P xs → P y
  each-found test [] y e h = absurd (cc)
  each-found test (x ∷ xs) y e h = go (test x) refl e (each-found test xs y)
    where
      go : (b : Bool) → test x ≡ b → find test (x ∷ xs) ≡ Some y → (find test xs ≡ Some y → Each P xs → P y) → P y
      go true f e ih = let k : Some x ≡ Some y = rw f at e in let k2 : x ≡ y = cc in subst P k2 h.0
      go false f e ih = let k : find test xs ≡ Some y = rw f at e in ih k h.1

  pub each-at : (xs ys : List X) (y : X) → Each P (xs ++ y ∷ ys) → P y
  each-at [] ys y h = h.0
  each-at (x ∷ xs) ys y h = each-at xs ys y h.1

  pub each-contains : (xs : List X) (y : X) → Each P xs → Contains xs y → P y
  each-contains [] y h c = let lt = c.1 in absurd (omega arith)
  each-contains (x ∷ xs) y h c = ⊎_elim (λ e. subst P e h.0) (λ k. each-contains xs y h.1 k) (element_cases x xs y c)

pub each-map : {X Y : Type 0} (P : Y → Type 0) (f : X → Y) → ((x : X) → P (f x)) → (xs : List X) → Each P (map f xs)
each-map P f h [] = tt
each-map P f h (x ∷ xs) = (h x, each-map P f h xs)

pub each-weaker : {X : Type 0} (P Q : X → Type 0) → ((x : X) → P x → Q x) → (xs : List X) → Each P xs → Each Q xs
each-weaker P Q f [] h = tt
each-weaker P Q f (x ∷ xs) h = (f x h.0, each-weaker P Q f xs h.1)
