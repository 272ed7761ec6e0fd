-- Whether a number is below another.
use Rattle.std.proofs.Common.{◌≡◌, ℕ, ◌<◌, ◌≤◌, true, false, arith}
use Rattle.std.specs.Prelude.{nat_lt}

pub not_below : (n m : ℕ) → m ≤ n → false ≡ nat_lt n m
not_below n m h = grind (arith, h)

pub below : (n m : ℕ) → n < m → true ≡ nat_lt n m
below n m h = grind (arith, h)
