-- Sums below a number.
use Rattle.std.proofs.Common.{◌≡◌, ℕ, zero, suc, ◌+◌, ◌<◌, ◌≤◌, ◌==◌, Bool, true, false, cond, List, [], ◌∷◌, ◌++◌, filter, map, refl, sym, ap, ◌∙◌, arith, le_refl}
use Rattle.std.proofs.lemmas.Bool.{both_ways, eqb-true, eq-eqb}
use Rattle.pt_signal.specs.declared.letter.Letter.{Letter}
use Rattle.pt_signal.specs.Process.{Sent}
use Rattle.pt_events.specs.Journal.{letter}
use Rattle.pt_events.specs.Counting.{below}
use Rattle.pt_laws.specs.Load.{weight, weights, left_weight}

pub below_shift : (f g u v : ℕ → ℕ) (n : ℕ) → ((k : ℕ) → k < n → g k + u k ≡ f k + v k) → below g n + below u n ≡ below f n + below v n
below_shift f g u v zero h = refl
below_shift f g u v (suc n) h = let a = h n (omega arith) in let b = below_shift f g u v n (λ k l. h k (omega arith)) in omega arith

pub below_shift_le : (f g u v : ℕ → ℕ) (n : ℕ) → ((k : ℕ) → k < n → g k + u k ≤ f k + v k) → below g n + below u n ≤ below f n + below v n
below_shift_le f g u v zero h = le_refl 0
below_shift_le f g u v (suc n) h = let a = h n (omega arith) in let b = below_shift_le f g u v n (λ k l. h k (omega arith)) in omega arith

pub below_up : (f g : ℕ → ℕ) (n : ℕ) → ((k : ℕ) → k < n → g k ≤ f k) → below g n ≤ below f n
below_up f g zero h = le_refl 0
below_up f g (suc n) h = let a = h n (omega arith) in let b = below_up f g n (λ k l. h k (omega arith)) in omega arith

pub below_same : (f g : ℕ → ℕ) (n : ℕ) → ((k : ℕ) → k < n → g k ≡ f k) → below g n ≡ below f n
below_same f g zero h = refl
below_same f g (suc n) h = let a = h n (omega arith) in let b = below_same f g n (λ k l. h k (omega arith)) in omega arith

pub below_zero : (n : ℕ) → below (λ k. 0) n ≡ 0
below_zero zero = refl
below_zero (suc n) = let a = below_zero n in omega arith

pub below_none : (P : ℕ → Bool) (w n : ℕ) → ((k : ℕ) → k < n → P k ≡ false) → below (λ k. cond (P k) w 0) n ≡ 0
below_none P w zero h = refl
below_none P w (suc n) h = let a = below_none P w n (λ k l. h k (omega arith)) in rw (h n (omega arith)) (omega arith)

module _ (P : ℕ → Bool) (e w : ℕ) (only : (k : ℕ) → P k ≡ true → k ≡ e) where
  others : (n : ℕ) → P n ≡ true → (k : ℕ) → k < n → P k ≡ false
  others n h k l = go (P k) refl
    where
      go : (b : Bool) → P k ≡ b → P k ≡ false
      go false q = q
      go true q = let a = only k q in let b = only n h in absurd (omega arith)

  pub below_most : (n : ℕ) → below (λ k. cond (P k) w 0) n ≤ w
  below_most zero = omega arith
  below_most (suc n) = go (P n) refl (below_most n)
    where
      go : (b : Bool) → P n ≡ b → below (λ k. cond (P k) w 0) n ≤ w → below (λ k. cond (P k) w 0) (suc n) ≤ w
      go true q ih = let a = below_none P w n (others n q) in rw q (omega arith)
      go false q ih = rw q (omega arith)

  pub below_one : P e ≡ true → (n : ℕ) → e < n → below (λ k. cond (P k) w 0) n ≡ w
  below_one at zero h = absurd (omega arith)
  below_one at (suc n) h = go (P n) refl (below_one at n)
    where
      go : (b : Bool) → P n ≡ b → (e < n → below (λ k. cond (P k) w 0) n ≡ w) → below (λ k. cond (P k) w 0) (suc n) ≡ w
      go true q ih = let a = below_none P w n (others n q) in rw q (omega arith)
      go false q ih =
          let ne : n ≡ e → ⊥ = λ r. both_ways (P n) q (ap P r ∙ at) in
          let a = ih (omega (arith, ne)) in rw q (omega arith)

is_at : (e k : ℕ) → (k == e) ≡ true → k ≡ e
is_at e k h = eqb-true k e h

pub below_at : (e w n : ℕ) → e < n → below (λ k. cond (k == e) w 0) n ≡ w
below_at e w n h = below_one (λ k. k == e) e w (is_at e) (eq-eqb e e refl) n h

-- weights ------------------------------------------------------------------------------

pub weigh-append : (xs ys : List Letter) → left_weight (xs ++ ys) ≡ left_weight xs + left_weight ys
weigh-append [] ys = omega arith
weigh-append (x ∷ xs) ys = let h = weigh-append xs ys in omega arith

pub weigh_sent : (n : ℕ) (ls : List Sent) → left_weight (map (letter n) ls) ≡ weights ls
weigh_sent n [] = refl
weigh_sent n (l ∷ ls) = let h = weigh_sent n ls in omega arith

-- what goes to the desks below n weighs no more than all
pub weigh_apart : (n : ℕ) (ls : List Letter) → below (λ k. left_weight (filter (λ r. r.to.shard == k) ls)) n ≤ left_weight ls
weigh_apart n [] = let a = below_zero n in omega arith
weigh_apart n (l ∷ ls) =
    let w : ℕ = weight l.signal in
    let P : ℕ → Bool = λ k. l.to.shard == k in
    let most = below_most P l.to.shard w (λ k h. sym (eqb-true l.to.shard k h)) n in
    let ih = weigh_apart n ls in
    let shift = below_shift_le (λ k. left_weight (filter (λ r. r.to.shard == k) ls)) (λ k. left_weight (filter (λ r. r.to.shard == k) (l ∷ ls))) (λ k. 0) (λ k. cond (P k) w 0) n (λ k h. step k (P k) refl) in
    let z = below_zero n in
    omega arith
  where
    step : (k : ℕ) (b : Bool) → (l.to.shard == k) ≡ b
        → left_weight (filter (λ r. r.to.shard == k) (l ∷ ls)) + 0 ≤ left_weight (filter (λ r. r.to.shard == k) ls) + cond (l.to.shard == k) (weight l.signal) 0
    step k true q = rw q (omega arith)
    step k false q = rw q (omega arith)
