-- The first of a list that passes a test, and the list without it.
use Rattle.std.proofs.Common.{◌≡◌, ℕ, suc, ◌+◌, ◌-◌, ◌<◌, ◌≤◌, Bool, true, false, not, cond, ltb, List, [], ◌∷◌, ◌++◌, length, get_or, take, drop, refl, ap, sym, subst, ◌∙◌, arith, length-append, length-take, length-drop, Some, None}
use Rattle.std.specs.List.{find, position, position_or_len, remove, slice_get}
use Rattle.std.proofs.lemmas.List.{take_at, drop_at, take_more, drop-drop, drop-take, drop-append-le}
use Rattle.std.proofs.lemmas.Grind.{common_steps}
use Rattle.std.proofs.lemmas.Bool.Decides.{nat_tests}
use Rattle.std.proofs.lemmas.Bool.{ltb-true}
use Rattle.std.proofs.lemmas.Option.{slice_get_past}
use Rattle.std.proofs.lemmas.List.Folds.{find_at}
use Rattle.std.proofs.lemmas.List.Sums.{prefix_len-le-length}
use Rattle.pt_signal.specs.Values.{without_first}
use Rattle.pt_process.specs.Places.{IsFirst, IsFirstPlace}

module _ {X : Type 0} where
  spun : (front : List X) (z : X) (back : List X) (all : List X) → all ≡ front ++ z ∷ []
      → drop 1 ((drop (length all - 1) all ++ take (length all - 1) all) ++ back) ≡ front ++ back
  spun front z back all whole =
      let n : length front ≡ length all - 1 = omega (arith, ap length whole, length-append front (z ∷ [])) in
      let last : drop (length all - 1) all ≡ z ∷ [] = ap (drop (length all - 1)) whole ∙ drop_at front (z ∷ []) _ n in
      let rest : take (length all - 1) all ≡ front = ap (take (length all - 1)) whole ∙ take_at front (z ∷ []) _ n in
      rw (last, rest) refl

  turned_front : (xs ys : List X) (head place k : ℕ) (d : X) → head + place < length xs → k ≡ place + 1
      → ys ≡ drop (length (take k (drop head xs)) - 1) (take k (drop head xs)) ++ take (length (take k (drop head xs)) - 1) (take k (drop head xs))
      → drop (head + 1) (take head xs ++ (ys ++ drop k (drop head xs))) ≡ remove (drop head xs) place
  turned_front xs ys head place k d within wide turned =
      let zs = drop head xs in
      let short : place < length zs = omega (arith, length-drop head xs) in
      let whole : take k zs ≡ take place zs ++ get_or zs place d ∷ [] = ap (λ n. take n zs) wide ∙ take_more zs place d short in
      let front : length (take head xs) ≡ head = omega (arith, length-take head xs) in
      let past : k ≡ suc place = omega arith in
      sym (drop-drop 1 head _)
      ∙ ap (drop 1) (drop_at (take head xs) (ys ++ drop k zs) head front)
      ∙ ap (λ l. drop 1 (l ++ drop k zs)) turned
      ∙ spun (take place zs) (get_or zs place d) (drop k zs) (take k zs) whole
      ∙ ap (λ n. take place zs ++ drop n zs) past

  -- the item at a place goes before those before it, and then the head moves past it
  pub drop-brought_front : (xs ys : List X) (head place k : ℕ) → head + place < length xs → k ≡ place + 1
      → ys ≡ drop (length (take k (drop head xs)) - 1) (take k (drop head xs)) ++ take (length (take k (drop head xs)) - 1) (take k (drop head xs))
      → drop (head + 1) (take head xs ++ (ys ++ drop k (drop head xs))) ≡ remove (drop head xs) place
  drop-brought_front [] ys head place k within wide turned = absurd (omega (arith, within))
  drop-brought_front (x ∷ xs) ys head place k within wide turned = turned_front (x ∷ xs) ys head place k x within wide turned

  -- to take an item out past the head is to take it out of what stands from the head on
  pub drop-remove : (xs : List X) (head place : ℕ) → head + place < length xs → drop head (remove xs (head + place)) ≡ remove (drop head xs) place
  drop-remove xs head place within =
      let front : head ≤ length (take (head + place) xs) = omega (arith, length-take (head + place) xs) in
      let count : suc (head + place) ≡ head + suc place = omega arith in
      let past : drop (suc (head + place)) xs ≡ drop (suc place) (drop head xs) = ap (λ n. drop n xs) count ∙ sym (drop-drop (suc place) head xs) in
      drop-append-le head (take (head + place) xs) (drop (suc (head + place)) xs) front
      ∙ ap (λ l. l ++ drop (suc (head + place)) xs) (drop-take head place xs)
      ∙ ap (λ l. take place (drop head xs) ++ l) past

module _ {X : Type 0} (test : X → Bool) where
  step : (b : Bool) (i : X) (items rest : List X) (n : ℕ) → remove items n ≡ rest
      → remove (i ∷ items) (cond (not b) (1 + n) 0) ≡ cond b items (i ∷ rest)
  step true i items rest n h = refl
  step false i items rest n h = grind (arith, common_steps)

  remove_first : (items : List X) → remove items (position_or_len test items) ≡ without_first test items
  remove_first [] = refl
  remove_first (i ∷ items) = step (test i) i items _ _ (remove_first items)

  remove_past : (items : List X) (n : ℕ) → length items ≤ n → remove items n ≡ items
  remove_past items n past = grind (arith, common_steps)

  by_place : (items : List X) (n : ℕ) (b : Bool) → ltb n (length items) ≡ b → n ≤ length items
      → find test items ≡ slice_get items n → remove items n ≡ without_first test items
      → IsFirstPlace test items (cond b (Some n) None)
  by_place items n true lt le found removed = (ltb-true n (length items) lt, found, removed)
  by_place items n false lt le found removed =
      let past : length items ≤ n = grind (arith, nat_tests) in
      (found ∙ slice_get_past items n past, sym removed ∙ remove_past items n past)

  pub first_place : (items : List X) → IsFirstPlace test items (position test items)
  first_place items =
      by_place items (position_or_len test items) _ refl (prefix_len-le-length _ items) (find_at test items) (remove_first items)

  pub IsFirst-place : (items : List X) (place : ℕ) (x : X) → position test items ≡ Some place → slice_get items place ≡ Some x → IsFirst test items (Some (place, x))
  IsFirst-place items place x at there =
      let first = subst (IsFirstPlace test items) at (first_place items) in
      (first.0, first.1 ∙ there, there, first.2)

  pub IsFirst-none : (items : List X) → position test items ≡ None → IsFirst test items None
  IsFirst-none items none = (subst (IsFirstPlace test items) none (first_place items)).0

  without_step : (b : Bool) (i : X) (items : List X) → cond b (Some i) (find test items) ≡ None
      → (find test items ≡ None → without_first test items ≡ items)
      → cond b items (i ∷ without_first test items) ≡ i ∷ items
  without_step true i items none below = cc
  without_step false i items none below = ap (λ xs. i ∷ xs) (below none)

  -- nothing goes where nothing passes
  pub without_first-none : (items : List X) → find test items ≡ None → without_first test items ≡ items
  without_first-none [] none = refl
  without_first-none (i ∷ items) none = without_step (test i) i items none (without_first-none items)

  pub within_from_position : (items : List X) (place : ℕ) → position test items ≡ Some place → place < length items
  within_from_position items place at = (subst (IsFirstPlace test items) at (first_place items)).0
