-- Numbers are read as they are printed.
use Rattle.std.proofs.Common.{◌≡◌, ℕ, zero, suc, ◌+◌, ◌-◌, ◌*◌, ◌/◌, ◌%◌, ◌^◌, ◌<◌, ◌≤◌, ◌==◌, nat_le, Bool, true, false, cond, Ok, Err, List, [], ◌∷◌, ◌++◌, length, decimal, refl, ap, sym, ◌∙◌, subst, append_assoc, eqb-true, leb-true, le-leb, arith, rules}
use Rattle.std.proofs.lemmas.Bool.{eqb-false}
use Rattle.std.proofs.lemmas.Fmt.{decimal_digit, decimal_step, decimal_by_steps}
use Rattle.pt_texts.specs.Numbers.{is_digit, digits_at, number_at}
use Rattle.pt_texts.proofs.Pieces.{Reads, ok_is}

-- no digit follows
abbrev pub NoDigit : List ℕ → Type 0
NoDigit [] = Unit {0}
NoDigit (c ∷ r) = is_digit c ≡ false

digit_is : (c : ℕ) → is_digit c ≡ true → (48 ≤ c) × (c ≤ 57)
digit_is c h = search (rules)

is_a_digit : (c : ℕ) → 48 ≤ c → c ≤ 57 → is_digit c ≡ true
is_a_digit c h k = rw (le-leb 48 c h, le-leb c 57 k) refl

-- one digit more
one_more : (n c : ℕ) (t : List ℕ) → 0 < n → 48 ≤ c → c ≤ 57 → n * 10 + (c - 48) < 2 ^ 64 → decimal n ++ c ∷ t ≡ decimal (n * 10 + (c - 48)) ++ t
one_more n c t pos low high small =
    let m = n * 10 + (c - 48) in
    let front : m / 10 ≡ n = omega arith in
    let last : 48 + m % 10 ≡ c = omega arith in
    let step : decimal m ≡ decimal n ++ c ∷ [] = decimal_step m (omega arith) small ∙ rw (front, last) refl in
    sym (append_assoc (decimal n) (c ∷ []) t) ∙ ap (λ z. z ++ t) (sym step)

digits_take : (most n : ℕ) (t : List ℕ) (x : ℕ × List ℕ) → 0 < n → n ≤ most → most < 2 ^ 64 → digits_at most n t ≡ Ok x → (decimal n ++ t ≡ decimal x.0 ++ x.1) × (x.0 ≤ most)
digits_take most n [] x pos low small h = subst (λ (y : ℕ × List ℕ). (decimal n ++ [] ≡ decimal y.0 ++ y.1) × (y.0 ≤ most)) (ok_is (n, []) x h) (refl, low)
digits_take most n (c ∷ t) x pos low small h = go (is_digit c) refl (nat_le (n * 10 + (c - 48)) most) refl h (digits_take most (n * 10 + (c - 48)) t x)
  where
    m : ℕ
    m = n * 10 + (c - 48)

    go : (b : Bool) → is_digit c ≡ b → (d : Bool) → nat_le m most ≡ d → cond b (cond d (digits_at most m t) (Err (length (c ∷ t)))) (Ok (n, c ∷ t)) ≡ Ok x
        → (0 < m → m ≤ most → most < 2 ^ 64 → digits_at most m t ≡ Ok x → (decimal m ++ t ≡ decimal x.0 ++ x.1) × (x.0 ≤ most))
        → (decimal n ++ c ∷ t ≡ decimal x.0 ++ x.1) × (x.0 ≤ most)
    go false e d f k more = subst (λ (y : ℕ × List ℕ). (decimal n ++ c ∷ t ≡ decimal y.0 ++ y.1) × (y.0 ≤ most)) (ok_is (n, c ∷ t) x k) (refl, low)
    go true e false f k more = absurd (cc)
    go true e true f k more =
        let digit = digit_is c e in
        let within : m ≤ most = leb-true m most f in
        let rest = more (omega arith) within small k in
        (one_more n c t pos digit.0 digit.1 (omega (arith, within, small)) ∙ rest.0, rest.1)

-- the digits of a number that is not 0
begun : (most n : ℕ) → n < 2 ^ 64 → 9 ≤ most → 0 < n → n ≤ most → (r : List ℕ) → number_at most (decimal n ++ r) ≡ digits_at most n r
begun most n small wide = decimal_by_steps (λ n ds. 0 < n → n ≤ most → (r : List ℕ) → number_at most (ds ++ r) ≡ digits_at most n r) one more n small
  where
    one : (n : ℕ) → n < 10 → 0 < n → n ≤ most → (r : List ℕ) → number_at most ((48 + n) ∷ r) ≡ digits_at most n r
    one n low pos within r =
        let other : (48 + n == 48) ≡ false = search (rules, arith) in
        let same : 48 + n - 48 ≡ n = omega arith in
        rw (other, is_a_digit (48 + n) (omega arith) (omega arith), same) refl

    more : (n : ℕ) (ds : List ℕ) → 10 ≤ n → (0 < n / 10 → n / 10 ≤ most → (r : List ℕ) → number_at most (ds ++ r) ≡ digits_at most (n / 10) r)
        → 0 < n → n ≤ most → (r : List ℕ) → number_at most ((ds ++ (48 + n % 10) ∷ []) ++ r) ≡ digits_at most n r
    more n ds big ih pos within r =
        let c = 48 + n % 10 in
        let same : n / 10 * 10 + (c - 48) ≡ n = omega arith in
        let last : digits_at most (n / 10) (c ∷ r) ≡ digits_at most n r = rw (is_a_digit c (omega arith) (omega arith), same, le-leb n most within) refl in
        ap (number_at most) (append_assoc ds (c ∷ []) r) ∙ ih (omega arith) (omega arith) (c ∷ r) ∙ last

stopped : (most n : ℕ) (r : List ℕ) → NoDigit r → digits_at most n r ≡ Ok (n, r)
stopped most n [] s = refl
stopped most n (c ∷ r) s = rw s refl

pub number_reads : (most : ℕ) → 9 ≤ most → most < 2 ^ 64 → Reads (λ n. n ≤ most) NoDigit decimal (number_at most)
number_reads most wide small = record { takes = took; again = back }
  where
    took : (t : List ℕ) (x : ℕ × List ℕ) → number_at most t ≡ Ok x → (t ≡ decimal x.0 ++ x.1) × (x.0 ≤ most)
    took [] x h = absurd (cc)
    took (c ∷ t) x h = go (c == 48) refl (is_digit c) refl h
      where
        go : (b : Bool) → (c == 48) ≡ b → (d : Bool) → is_digit c ≡ d
            → cond b (Ok (0, t)) (cond d (digits_at most (c - 48) t) (Err (length (c ∷ t)))) ≡ Ok x → (c ∷ t ≡ decimal x.0 ++ x.1) × (x.0 ≤ most)
        go true e d f k =
            subst (λ (y : ℕ × List ℕ). (c ∷ t ≡ decimal y.0 ++ y.1) × (y.0 ≤ most)) (ok_is (0, t) x k)
            (ap (λ z. z ∷ t) (eqb-true c 48 e) ∙ ap (λ z. z ++ t) (sym (decimal_digit 0 (omega arith))), omega arith)
        go false e false f k = absurd (cc)
        go false e true f k =
            let digit = digit_is c f in
            let other : c ≡ 48 → ⊥ = eqb-false c 48 e in
            let some : 0 < c - 48 = omega (arith, other) in
            let rest = digits_take most (c - 48) t x some (omega (arith, digit.1)) small k in
            let first : decimal (c - 48) ≡ c ∷ [] = decimal_digit (c - 48) (omega (arith, digit.1)) ∙ ap (λ z. z ∷ []) (omega (arith, digit.0)) in
            (ap (λ z. z ++ t) (sym first) ∙ rest.0, rest.1)

    back : (n : ℕ) (r : List ℕ) → n ≤ most → NoDigit r → number_at most (decimal n ++ r) ≡ Ok (n, r)
    back zero r low stop = rw (decimal_digit 0 (omega arith)) refl
    back (suc n) r low stop = begun most (suc n) (omega arith) wide (omega arith) low r ∙ stopped most (suc n) r stop
