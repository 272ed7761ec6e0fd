-- How a count over slots follows the change of one slot.
use Rattle.std.proofs.Common.{◌≡◌, ◌≢◌, ℕ, zero, suc, ◌+◌, ◌<◌, ◌≤◌, List, [], ◌∷◌, get_or, Option, Some, None, IsSome, is_some, cond, count_by, sum_by, refl, ap, arith}
use Rattle.std.proofs.lemmas.List.Sums.{sum_by-cons}
use Rattle.pt_slots.specs.State.{is_live, is_retired, first_free}

module _ {X : Type 0} (f : X → ℕ) (d : X) (nothing : f d ≡ 0) where
  -- lists that read alike, past their ends too, have one sum
  pub sum_by-same : (old new : List X) → ((i : ℕ) → get_or new i d ≡ get_or old i d) → sum_by f new ≡ sum_by f old
  sum_by-same [] [] same = refl
  sum_by-same [] (y ∷ ys) same =
      omega (arith, nothing, sum_by-cons f y ys, ap f (same 0), sum_by-same [] ys (λ i. same (suc i)))
  sum_by-same (x ∷ xs) [] same =
      omega (arith, nothing, sum_by-cons f x xs, ap f (same 0), sum_by-same xs [] (λ i. same (suc i)))
  sum_by-same (x ∷ xs) (y ∷ ys) same =
      omega (arith, sum_by-cons f x xs, sum_by-cons f y ys, ap f (same 0), sum_by-same xs ys (λ i. same (suc i)))

  -- where one place alone differs, the sums differ by it
  pub sum_by-changed : (old new : List X) (key : ℕ) → ((i : ℕ) → i ≢ key → get_or new i d ≡ get_or old i d) → sum_by f new + f (get_or old key d) ≡ sum_by f old + f (get_or new key d)
  sum_by-changed [] [] key others = refl
  sum_by-changed [] (y ∷ ys) zero others =
      omega (arith, nothing, sum_by-cons f y ys, sum_by-same [] ys (λ i. others (suc i) (λ e. omega (arith, e))))
  sum_by-changed [] (y ∷ ys) (suc key) others =
      omega (arith, nothing, sum_by-cons f y ys, ap f (others 0 (λ e. omega (arith, e))), sum_by-changed [] ys key (λ i differs. others (suc i) (λ e. differs (omega (arith, e)))))
  sum_by-changed (x ∷ xs) [] zero others =
      omega (arith, nothing, sum_by-cons f x xs, sum_by-same xs [] (λ i. others (suc i) (λ e. omega (arith, e))))
  sum_by-changed (x ∷ xs) [] (suc key) others =
      omega (arith, nothing, sum_by-cons f x xs, ap f (others 0 (λ e. omega (arith, e))), sum_by-changed xs [] key (λ i differs. others (suc i) (λ e. differs (omega (arith, e)))))
  sum_by-changed (x ∷ xs) (y ∷ ys) zero others =
      omega (arith, sum_by-cons f x xs, sum_by-cons f y ys, sum_by-same xs ys (λ i. others (suc i) (λ e. omega (arith, e))))
  sum_by-changed (x ∷ xs) (y ∷ ys) (suc key) others =
      omega (arith, sum_by-cons f x xs, sum_by-cons f y ys, ap f (others 0 (λ e. omega (arith, e))), sum_by-changed xs ys key (λ i differs. others (suc i) (λ e. differs (omega (arith, e)))))

module _ {X : Type 0} where
  count_cons : (x : Option X) (xs : List (Option X)) → count_by is_some (x ∷ xs) ≤ count_by is_some xs + 1
  count_cons None xs = omega (arith, sum_by-cons (λ o. cond (is_some o) 1 0) None xs)
  count_cons (Some x) xs = omega (arith, sum_by-cons (λ o. cond (is_some o) 1 0) (Some x) xs)

  count_none : (x : Option X) (xs : List (Option X)) → x ≡ None → count_by is_some (x ∷ xs) ≡ count_by is_some xs
  count_none None xs none = omega (arith, sum_by-cons (λ o. cond (is_some o) 1 0) None xs)
  count_none (Some x) xs none = absurd (cc)

  -- with nothing from n on, there are at most n values
  count_within : (xs : List (Option X)) (n : ℕ) → ((k : ℕ) → n ≤ k → get_or xs k None ≡ None) → count_by is_some xs ≤ n
  count_within [] n past = omega arith
  count_within (x ∷ xs) zero past =
      omega (arith, count_none x xs (past 0 (omega arith)), count_within xs zero (λ k _. past (suc k) (omega arith)))
  count_within (x ∷ xs) (suc n) past =
      omega (arith, count_cons x xs, count_within xs n (λ k more. past (suc k) (omega (arith, more))))

  -- and fewer where one of those places is free
  pub count_with_free : (xs : List (Option X)) (n free : ℕ) → ((k : ℕ) → n ≤ k → get_or xs k None ≡ None) → free < n → get_or xs free None ≡ None → count_by is_some xs < n
  count_with_free [] n free past below none = omega (arith, below)
  count_with_free (x ∷ xs) zero free past below none = absurd (omega (arith, below))
  count_with_free (x ∷ xs) (suc n) zero past below none =
      omega (arith, count_none x xs none, count_within xs n (λ k more. past (suc k) (omega (arith, more))))
  count_with_free (x ∷ xs) (suc n) (suc free) past below none =
      omega (arith, count_cons x xs, count_with_free xs n free (λ k more. past (suc k) (omega (arith, more))) (omega (arith, below)) none)

module _ {T : Type 0} where
  -- a slot that is not free has a live value or is retired
  pub taken_split : (slots : List (Option (Option T))) → count_by is_some slots ≡ count_by is_live slots + count_by is_retired slots
  taken_split [] = refl
  taken_split (slot ∷ rest) =
      omega (arith, sum_by-cons (λ o. cond (is_some o) 1 0) slot rest, sum_by-cons (λ o. cond (is_live o) 1 0) slot rest, sum_by-cons (λ o. cond (is_retired o) 1 0) slot rest, one_of slot, taken_split rest)
    where
      one_of : (slot : Option (Option T)) → cond (is_some slot) 1 0 ≡ cond (is_live slot) 1 0 + cond (is_retired slot) 1 0
      one_of None = refl
      one_of (Some None) = refl
      one_of (Some (Some value)) = refl

  -- the first free slot is not above the count of those that are not free
  pub first_free_within : (slots : List (Option (Option T))) → first_free slots ≤ count_by is_some slots
  first_free_within [] = omega arith
  first_free_within (None ∷ slots) = omega arith
  first_free_within (Some entry ∷ slots) = omega (arith, sum_by-cons (λ o. cond (is_some o) 1 0) (Some entry) slots, first_free_within slots)

  pub first_free_is_free : (slots : List (Option (Option T))) → get_or slots (first_free slots) None ≡ None
  first_free_is_free [] = refl
  first_free_is_free (None ∷ slots) = refl
  first_free_is_free (Some entry ∷ slots) = first_free_is_free slots

  -- it is behind each one that is not free, where it is behind all before that
  pub first_free_later : (slots : List (Option (Option T))) (n : ℕ) → n ≤ first_free slots → IsSome (get_or slots n None) → n < first_free slots
  first_free_later [] n behind some = absurd (cc)
  first_free_later (None ∷ slots) zero behind some = absurd (cc)
  first_free_later (None ∷ slots) (suc n) behind some = absurd (omega (arith, behind))
  first_free_later (Some entry ∷ slots) zero behind some = omega arith
  first_free_later (Some entry ∷ slots) (suc n) behind some = omega (arith, first_free_later slots n (omega (arith, behind)) some)

  pub first_free_here : (slots : List (Option (Option T))) (n : ℕ) → n ≤ first_free slots → (IsSome (get_or slots n None) → ⊥) → n ≡ first_free slots
  first_free_here [] n behind free = omega (arith, behind)
  first_free_here (None ∷ slots) n behind free = omega (arith, behind)
  first_free_here (Some entry ∷ slots) zero behind free = absurd (free refl)
  first_free_here (Some entry ∷ slots) (suc n) behind free = omega (arith, first_free_here slots n (omega (arith, behind)) free)

  -- and rests on which slots are free alone
  pub first_free_same : (old new : List (Option (Option T))) → ((i : ℕ) → is_some (get_or new i None) ≡ is_some (get_or old i None)) → first_free new ≡ first_free old
  first_free_same [] [] same = refl
  first_free_same [] (None ∷ new) same = refl
  first_free_same [] (Some y ∷ new) same = let here = same 0 in absurd (cc)
  first_free_same (None ∷ old) [] same = refl
  first_free_same (Some x ∷ old) [] same = let here = same 0 in absurd (cc)
  first_free_same (None ∷ old) (None ∷ new) same = refl
  first_free_same (None ∷ old) (Some y ∷ new) same = let here = same 0 in absurd (cc)
  first_free_same (Some x ∷ old) (None ∷ new) same = let here = same 0 in absurd (cc)
  first_free_same (Some x ∷ old) (Some y ∷ new) same = ap suc (first_free_same old new (λ i. same (suc i)))
