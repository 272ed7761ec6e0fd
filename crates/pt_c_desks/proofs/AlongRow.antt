-- Rows of handles: whether the desks are in order.
use Rattle.std.proofs.Common.{◌≡◌, ℕ, true, List, length, refl}
use Rattle.pt_desk.specs.DeskState.{DeskState}
use Rattle.pt_c_values.specs.Places.{HandlePlace}
use Rattle.pt_c_desks.specs.InOrder.{are_in_order}
use Rattle.pt_c_values.proofs.AlongRow.{Looked, looked_all}

abbrev pub InOrderSoFar : ℕ → List (HandlePlace DeskState) → ℕ → Type 0
InOrderSoFar count whole k = Looked (λ place. are_in_order place count) whole k

pub all_looked : (whole : List (HandlePlace DeskState)) (count k : ℕ) → InOrderSoFar count whole k → k ≡ length whole → are_in_order 0 count whole ≡ true
all_looked whole count k l is = looked_all (λ place. are_in_order place count) whole k l is refl
