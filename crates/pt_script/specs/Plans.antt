-- What a script says, as plain data.
use Rattle.std.specs.Prelude.{List, Bool}
use Rattle.pt_script.specs.declared.values.Settings.{Settings}
use Rattle.pt_script.specs.declared.values.Top.{Top}
use Rattle.pt_script.specs.declared.values.Operation.{Operation}

-- what a process does
pub record Plan : Type 0 where
  pub trap : Bool
  pub operations : List Operation

-- a script; the place of a process in the list is its number
pub record Whole : Type 0 where
  pub settings : Settings
  pub tops : List Top
  pub processes : List Plan
