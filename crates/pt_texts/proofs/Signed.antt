-- Numbers with a sign are read as they are printed.
use Rattle.std.proofs.Common.{◌≡◌, ℕ, zero, suc, ◌-◌, ◌^◌, ◌≤◌, ◌==◌, ℤ, pos, negsuc, Bool, true, false, cond, Option, Some, None, Ok, List, [], ◌∷◌, ◌++◌, decimal, codes, refl, ap, sym, ◌∙◌, subst, eqb-true, arith}
use Rattle.std.specs.Fmt.{signed_decimal}
use Rattle.pt_texts.specs.Steps.{◌>>=◌, behind, choose, mapped}
use Rattle.pt_texts.specs.Numbers.{number_at, negated, i64_at}
use Rattle.pt_texts.specs.Fits.{FitsNumber}
use Rattle.pt_texts.proofs.Pieces.{Reads, ok_is, bound, behind_is}
use Rattle.pt_texts.proofs.Decimals.{NoDigit, number_reads}

positive : Reads (λ n. n ≤ 2 ^ 63 - 1) NoDigit decimal (number_at (2 ^ 63 - 1))
positive = number_reads (2 ^ 63 - 1) (omega arith) (omega arith)

negative : Reads (λ n. n ≤ 2 ^ 63) NoDigit decimal (number_at (2 ^ 63))
negative = number_reads (2 ^ 63) (omega arith) (omega arith)

-- what is read as a number does not begin with a minus
no_minus : (t : List ℕ) (x : ℕ × List ℕ) → number_at (2 ^ 63 - 1) t ≡ Ok x → behind (codes "-") t ≡ None
no_minus [] x h = refl
no_minus (c ∷ t) x h = go (45 == c) refl
  where
    go : (b : Bool) → (45 == c) ≡ b → cond b (Some t) None ≡ None
    go false e = refl
    go true e = let same : 45 ≡ c = eqb-true 45 c e in absurd (let k : number_at (2 ^ 63 - 1) (45 ∷ t) ≡ Ok x = subst (λ d. number_at (2 ^ 63 - 1) (d ∷ t) ≡ Ok x) (sym same) h in cc)

pub signed_reads : Reads FitsNumber NoDigit signed_decimal i64_at
signed_reads = record { takes = took; again = back }
  where
    minus : (t r : List ℕ) (y : ℕ × List ℕ) (x : ℤ × List ℕ) → t ≡ 45 ∷ r → (r ≡ decimal y.0 ++ y.1) × (y.0 ≤ 2 ^ 63) → negated r y ≡ Ok x
        → (t ≡ signed_decimal x.0 ++ x.1) × FitsNumber x.0
    minus t r (zero, rest) x e k h = absurd (cc)
    minus t r (suc n, rest) x e k h =
        subst (λ (z : ℤ × List ℕ). (t ≡ signed_decimal z.0 ++ z.1) × FitsNumber z.0) (ok_is (negsuc n, rest) x h)
        (e ∙ ap (λ z. 45 ∷ z) k.0, omega (arith, k.1))

    took : (t : List ℕ) (x : ℤ × List ℕ) → i64_at t ≡ Ok x → (t ≡ signed_decimal x.0 ++ x.1) × FitsNumber x.0
    took t x h = go (behind (codes "-") t) refl h
      where
        go : (o : Option (List ℕ)) → behind (codes "-") t ≡ o → choose o (λ r. number_at (2 ^ 63) r >>= negated r) (mapped pos (number_at (2 ^ 63 - 1)) t) ≡ Ok x
            → (t ≡ signed_decimal x.0 ++ x.1) × FitsNumber x.0
        go (Some r) e k =
            let b = bound (number_at (2 ^ 63) r) (negated r) x k in
            minus t r b.0 x (behind_is (codes "-") t r e) (negative.takes r b.0 b.1) b.2
        go None e k =
            let b = bound (number_at (2 ^ 63 - 1) t) (λ y. Ok (pos y.0, y.1)) x k in
            let j = positive.takes t b.0 b.1 in
            subst (λ (z : ℤ × List ℕ). (t ≡ signed_decimal z.0 ++ z.1) × FitsNumber z.0) (ok_is (pos b.0.0, b.0.1) x b.2) (j.0, omega (arith, j.1))

    back : (z : ℤ) (r : List ℕ) → FitsNumber z → NoDigit r → i64_at (signed_decimal z ++ r) ≡ Ok (z, r)
    back (pos n) r f s =
        let read : number_at (2 ^ 63 - 1) (decimal n ++ r) ≡ Ok (n, r) = positive.again n r (omega (arith, f)) s in
        ap (λ o. choose o (λ t. number_at (2 ^ 63) t >>= negated t) (mapped pos (number_at (2 ^ 63 - 1)) (decimal n ++ r))) (no_minus (decimal n ++ r) (n, r) read)
        ∙ ap (λ y. y >>= λ x. Ok (pos x.0, x.1)) read
    back (negsuc n) r f s = ap (λ y. y >>= negated (decimal (suc n) ++ r)) (negative.again (suc n) r (omega (arith, f)) s)
