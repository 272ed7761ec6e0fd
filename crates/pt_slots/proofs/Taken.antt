-- A count of the slots is a count of what stands in them.
use Rattle.std.proofs.Common.{◌≡◌, ℕ, zero, suc, ◌+◌, ◌≤◌, Bool, false, List, [], ◌∷◌, get_or, Option, Some, None, is_some, unwrap_or, cond, count_by, refl, ap, ◌∙◌, arith}
use Rattle.std.proofs.lemmas.Bool.{eq-eqb}
use Rattle.std.proofs.lemmas.List.Sums.{sum_by-cons}
use Rattle.std.specs.List.{range_with_len}
use Rattle.pt_slots.specs.State.{SlotsState, at, issued, is_live, live_count}
use Rattle.pt_slots.specs.Taken.{taken_slots}

abbrev one : Bool → ℕ
one b = cond b 1 0

at_first : (g : ℕ → Bool) (a : ℕ) (b : Bool) → g (a + 0) ≡ b → g a ≡ b
at_first g a b h = let e : a ≡ a + 0 = omega arith in ap g e ∙ h

module _ {T : Type 0} where
  next : (g : ℕ → Bool) (a : ℕ) (slots : List (Option (Option T)))
      → ((k : ℕ) → g (a + suc k) ≡ is_live (get_or slots k None)) → (k : ℕ) → g (a + 1 + k) ≡ is_live (get_or slots k None)
  next g a slots same k = let e : a + 1 + k ≡ a + suc k = omega arith in ap g e ∙ same k

  -- a test of the numbers from a on that agrees with one of the slots, place by place
  counted : (g : ℕ → Bool) (slots : List (Option (Option T))) (a n : ℕ)
      → ((k : ℕ) → g (a + k) ≡ is_live (get_or slots k None)) → ((k : ℕ) → n ≤ k → get_or slots k None ≡ None)
      → count_by g (range_with_len a n) ≡ count_by is_live slots
  counted g [] a zero same past = refl
  counted g (x ∷ xs) a zero same past =
      let none : is_live x ≡ false = ap is_live (past 0 (omega arith)) in
      let rest = counted g xs (a + 1) zero (next g a xs (λ k. same (suc k))) (λ k _. past (suc k) (omega arith)) in
      omega (arith, sum_by-cons (λ o. cond (is_live o) 1 0) x xs, ap one none, rest)
  counted g [] a (suc n) same past =
      let none : g a ≡ false = at_first g a false (same 0) in
      let rest = counted g [] (a + 1) n (next g a [] (λ k. same (suc k))) (λ k _. refl) in
      omega (arith, sum_by-cons (λ k. cond (g k) 1 0) a (range_with_len (a + 1) n), ap one none, rest)
  counted g (x ∷ xs) a (suc n) same past =
      let here : g a ≡ is_live x = at_first g a (is_live x) (same 0) in
      let rest = counted g xs (a + 1) n (next g a xs (λ k. same (suc k))) (λ k more. past (suc k) (omega (arith, more))) in
      omega (arith, sum_by-cons (λ k. cond (g k) 1 0) a (range_with_len (a + 1) n), sum_by-cons (λ o. cond (is_live o) 1 0) x xs, ap one here, rest)

  taken_is : (o : Option (Option T)) → is_some (unwrap_or o None) ≡ is_live o
  taken_is None = refl
  taken_is (Some None) = refl
  taken_is (Some (Some value)) = refl

  unfoldable taken : SlotsState T → ℕ → Bool
  taken s slot = is_some (at s slot (issued s slot))

  -- a slot is taken where a live value stands in it
  here : (s : SlotsState T) (slot : ℕ) → taken s slot ≡ is_live (get_or s.slots slot None)
  unfolding at issued taken
  here s slot = rw (eq-eqb (get_or s.versions slot 0) (get_or s.versions slot 0) refl) (taken_is (get_or s.slots slot None))

  -- so as many slots are taken as values are live, where nothing stands past the capacity
  pub taken_count : (s : SlotsState T) → ((slot : ℕ) → s.capacity ≤ slot → get_or s.slots slot None ≡ None) → taken_slots s ≡ live_count s
  unfolding live_count taken
  taken_count s past = counted (taken s) s.slots 0 s.capacity from_zero past
    where
      from_zero : (k : ℕ) → taken s (0 + k) ≡ is_live (get_or s.slots k None)
      from_zero k = let e : 0 + k ≡ k = omega arith in ap (taken s) e ∙ here s k
