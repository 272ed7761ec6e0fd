-- Who lives on a desk, listed slot by slot.
use Rattle.std.proofs.Common.{◌≡◌, ℕ, zero, suc, ◌+◌, [], ◌∷◌, ◌++◌, Option, Some, None, refl, ap, ◌∙◌, arith}
use Rattle.std.specs.Prelude.{option_to_list}
use Rattle.std.specs.List.{cons_option, filter_map, range_with_len}
use Rattle.std.proofs.lemmas.List.Elements.{filter_map-append}

last : (a n j : ℕ) → a + n ≡ j → range_with_len a (suc n) ≡ range_with_len a n ++ j ∷ []
last a zero j e = let same : a ≡ j = omega (arith, e) in ap (λ k. k ∷ []) same
last a (suc n) j e = ap (λ l. a ∷ l) (last (a + 1) n j (omega (arith, e)))

module _ {X : Type 0} (h : ℕ → Option X) where
  one : (o : Option X) → cons_option o [] ≡ option_to_list o
  one None = refl
  one (Some x) = refl

  -- one more number is looked at
  pub listed_more : (n : ℕ) → filter_map h (range_with_len 0 (n + 1)) ≡ filter_map h (range_with_len 0 n) ++ option_to_list (h n)
  listed_more n =
      ap (filter_map h) (ap (range_with_len 0) (let on : n + 1 ≡ suc n = omega arith in on) ∙ last 0 n n (omega arith))
      ∙ filter_map-append h (range_with_len 0 n) (n ∷ [])
      ∙ ap (λ l. filter_map h (range_with_len 0 n) ++ l) (one (h n))
