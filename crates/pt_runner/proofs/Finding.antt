-- The first of a list that passes a test, come to one after the other, and its place; and what is found of those of a runner.
use Rattle.std.proofs.Common.{◌≡◌, zero, suc, ℕ, ◌+◌, ◌<◌, Bool, true, false, cond, List, [], ◌∷◌, length, map, take, get_or, Some, None, refl, add-one, fold, ap, subst, sym, ◌∙◌, arith}
use Rattle.std.specs.Prelude.{count_by, not, nat_lt}
use Rattle.std.specs.List.{find, position, position_or_len}
use Rattle.std.specs.Option.{option_map}
use Rattle.std.proofs.lemmas.Bool.{ltb-true}
use Rattle.std.proofs.lemmas.List.{length-map}
use Rattle.std.proofs.lemmas.List.Sums.{passes_at_first}
use Rattle.pt_shard.specs.ShardState.{ShardState, lives}
use Rattle.pt_runner.specs.declared.runner.Actor.{Actor}
use Rattle.pt_runner.specs.declared.runner.Runner.{Runner}
use Rattle.pt_runner.specs.Stepping.{processes_here}

module _ {X : Type 0} (test : X → Bool) where
  pub found : (xs : List X) (i : ℕ) (d : X) → i < length xs → find test (take i xs) ≡ None → test (get_or xs i d) ≡ true → find test xs ≡ Some (get_or xs i d)
  found [] i d l none is = absurd (omega (arith, l))
  found (x ∷ xs) zero d l none is = rw is refl
  found (x ∷ xs) (suc i) d l none is = go (test x) refl none (found xs i d (omega (arith, l)))
    where
      go : (b : Bool) → test x ≡ b → find test (x ∷ take i xs) ≡ None → (find test (take i xs) ≡ None → test (get_or xs i d) ≡ true → find test xs ≡ Some (get_or xs i d)) → find test (x ∷ xs) ≡ Some (get_or xs i d)
      go true e n ih = let bad : Some x ≡ None = rw e at n in absurd (cc)
      go false e n ih = let rest : find test (take i xs) ≡ None = rw e at n in rw e (ih rest is)

  passed : (xs : List X) (i : ℕ) (d : X) → i < length xs → find test (take i xs) ≡ None → test (get_or xs i d) ≡ false → find test (take (suc i) xs) ≡ None
  passed [] i d l none is = absurd (omega (arith, l))
  passed (x ∷ xs) zero d l none is = rw is refl
  passed (x ∷ xs) (suc i) d l none is = go (test x) refl none (passed xs i d (omega (arith, l)))
    where
      go : (b : Bool) → test x ≡ b → find test (x ∷ take i xs) ≡ None → (find test (take i xs) ≡ None → test (get_or xs i d) ≡ false → find test (take (suc i) xs) ≡ None) → find test (x ∷ take (suc i) xs) ≡ None
      go true e n ih = let bad : Some x ≡ None = rw e at n in absurd (cc)
      go false e n ih = let rest : find test (take i xs) ≡ None = rw e at n in rw e (ih rest is)

  pub passed_one : (xs : List X) (i : ℕ) (d : X) → i < length xs → find test (take i xs) ≡ None → test (get_or xs i d) ≡ false → find test (take (i + 1) xs) ≡ None
  passed_one xs i d l none is = subst (λ n. find test (take n xs) ≡ None) (sym (add-one i)) (passed xs i d l none is)

  -- where a place is found, it is that of an element that passes
  place_case : (xs : List X) (i : ℕ) (b : Bool) → nat_lt (position_or_len test xs) (length xs) ≡ b → cond b (Some (position_or_len test xs)) None ≡ Some i → (position_or_len test xs < length xs) × (position_or_len test xs ≡ i)
  place_case xs i true lt is = (ltb-true (position_or_len test xs) (length xs) lt, cc)
  place_case xs i false lt is = absurd (cc)

  pub placed : (xs : List X) (i : ℕ) (d : X) → position test xs ≡ Some i → (i < length xs) × (test (get_or xs i d) ≡ true)
  placed xs i d is =
      let at = place_case xs i (nat_lt (position_or_len test xs) (length xs)) refl is in
      (subst (λ n. n < length xs) at.1 at.0, subst (λ n. test (get_or xs n d) ≡ true) at.1 (passes_at_first test xs d at.0))

module _ {X Y : Type 0} (f : X → Y) where
  -- what is found among what a list is seen as, is what its first such element is seen as
  pub found_mapped : {Z : Type 0} (g : Y → Z) (test : Y → Bool) (xs : List X) → option_map g (find test (map f xs)) ≡ option_map (λ x. g (f x)) (find (λ x. test (f x)) xs)
  found_mapped g test [] = refl
  found_mapped {Z} g test (x ∷ xs) = go (test (f x)) (found_mapped g test xs)
    where
      go : (b : Bool) → option_map g (find test (map f xs)) ≡ option_map (λ x. g (f x)) (find (λ x. test (f x)) xs)
          → option_map g (cond b (Some (f x)) (find test (map f xs))) ≡ option_map (λ x. g (f x)) (cond b (Some x) (find (λ x. test (f x)) xs))
      go true so = refl
      go false so = so

  -- and there are as many
  counted_from : (test : Y → Bool) (n : ℕ) (xs : List X) → fold (λ s y. s + cond (test y) 1 0) n (map f xs) ≡ fold (λ s x. s + cond (test (f x)) 1 0) n xs
  counted_from test n [] = refl
  counted_from test n (x ∷ xs) = counted_from test (n + cond (test (f x)) 1 0) xs

  -- and the place of the first one is the same
  places_mapped : (test : Y → Bool) (xs : List X) → position_or_len test (map f xs) ≡ position_or_len (λ x. test (f x)) xs
  places_mapped test [] = refl
  places_mapped test (x ∷ xs) = ap (λ n. cond (not (test (f x))) (1 + n) 0) (places_mapped test xs)

  pub position_mapped : (test : Y → Bool) (xs : List X) → position test (map f xs) ≡ position (λ x. test (f x)) xs
  position_mapped test xs =
      ap (λ n. cond (nat_lt n (length (map f xs))) (Some n) None) (places_mapped test xs)
      ∙ ap (λ n. cond (nat_lt (position_or_len (λ x. test (f x)) xs) n) (Some (position_or_len (λ x. test (f x)) xs)) None) (length-map xs f)

pub counted_here : (r : Runner) (d : ShardState) (n : ℕ) → n ≡ count_by (λ (a : Actor). lives d a.pid) r.actors.items → n ≡ count_by (lives d) (processes_here r)
counted_here r d n h = h ∙ sym (counted_from (λ (a : Actor). a.pid) (lives d) 0 r.actors.items)
