-- Counts and sums.
use Rattle.std.specs.Prelude.{ℕ, zero, suc, ◌+◌, ◌-◌, ◌^◌, min, Bool, true, false, List, [], ◌∷◌}

abbrev pub one_if : Bool → ℕ
one_if true = 1
one_if false = 0

-- how many pass the test
abbrev pub count : {X : Type 0} → (X → Bool) → List X → ℕ
count test [] = 0
count test (x ∷ xs) = one_if (test x) + count test xs

-- the sum of f below n
abbrev pub below : (ℕ → ℕ) → ℕ → ℕ
below f zero = 0
below f (suc n) = f n + below f n

-- a number of 64 bits, which stays at the greatest
abbrev pub capped : ℕ → ℕ
capped n = min n (2 ^ 64 - 1)
