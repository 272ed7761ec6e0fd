-- Cases of a test, and what there is or is not.
use Rattle.std.proofs.Common.{◌≡◌, Bool, true, false, Option, Some, None, refl}

pub by_cases : {Y : Type 0} (b : Bool) → (b ≡ true → Y) → (b ≡ false → Y) → Y
by_cases true h g = h refl
by_cases false h g = g refl

pub same_some : {X : Type 0} (x y : X) → Some x ≡ Some y → x ≡ y
same_some x y h = cc

pub some_none : {X : Type 0} (a : Option X) (x : X) → a ≡ None → a ≡ Some x → {Y : Type 0} → Y
some_none a x e f = absurd (cc)
