-- The printed texts of faults and places, as lists of characters.
use Rattle.std.specs.Prelude.{ℕ, List, ◌++◌, codes, decimal, Option, Some, None}
use Rattle.pt_script.specs.declared.fault.Fault.{Fault}
use Rattle.pt_script.specs.declared.fault.Fault.TheVariants.{Syntax, Field, Name, Bounds}
use Rattle.pt_script.specs.declared.fault.Place.{Place}

unfoldable pub script_fault_text : Fault → List ℕ
script_fault_text Syntax = codes "1 syntax"
script_fault_text Field = codes "2 field"
script_fault_text Name = codes "3 name"
script_fault_text Bounds = codes "4 bounds"

abbrev pub numbers_text : Option ℕ → Option ℕ → List ℕ
numbers_text (Some process) (Some op) = codes "process " ++ decimal process ++ codes " op " ++ decimal op
numbers_text (Some process) None = codes "process " ++ decimal process
numbers_text None op = codes "script"

-- `script`, `process P` or `process P op K`
unfoldable pub place_text : Place → List ℕ
place_text place = numbers_text place.process place.op
