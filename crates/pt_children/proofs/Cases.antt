-- Cases of a test.
use Rattle.std.proofs.Common.{◌≡◌, Bool, true, false, refl}

pub by_cases : {Y : Type 0} (b : Bool) → (b ≡ true → Y) → (b ≡ false → Y) → Y
by_cases true h g = h refl
by_cases false h g = g refl
