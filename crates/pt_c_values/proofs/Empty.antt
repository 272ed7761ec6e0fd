-- A handle that was found empty.
use Rattle.std.proofs.Common.{◌≡◌, false, Some, None}
use Rattle.std.specs.Prelude.{is_some}
use Rattle.pt_c_values.specs.Places.{HandlePlace, value_behind}
use Rattle.pt_c_values.specs.Filling.{IfEmpty}

module _ {S : Type 0} where
  pub if_empty : (p : HandlePlace S) (P Q : Type 0) → is_some (value_behind p) ≡ false → P → IfEmpty p P Q
  if_empty (Some (Some s)) P Q e x = absurd (cc e)
  if_empty (Some None) P Q e x = x
  if_empty None P Q e x = x
