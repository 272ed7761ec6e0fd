-- The place of a fault, and what is called so there.
use Rattle.std.specs.Prelude.{◌≡◌, ◌⊎◌, ◌≤◌, ◌<◌, ℕ, ◌-◌, List, [], codes, length, if◌then◌else◌, Option, Some, None}
use Rattle.std.specs.Prelude.{option_and_then, slice_index_or}
use Rattle.std.specs.Str.{IsUtf8}
use Rattle.serde_json.specs.Data.{Data, null}
use Rattle.serde_json.specs.Find.{as_str, get}
use Rattle.serde_json.specs.Read.{read}
use Rattle.serde_json.specs.View.{view}
use Rattle.pt_script.specs.declared.fault.Place.{Place}
use Rattle.pt_script.specs.Members.{required, list}
use Rattle.pt_script.specs.Operations.{is_spawn}
use Rattle.pt_script.specs.Scripts.{loose}
use Rattle.pt_script.specs.Standing.{OperationStands, all_processes, processes_in}
use Rattle.pt_script.specs.declared.limits.TheConstants.{MAX_BYTES}
use Rattle.pt_script.specs.declared.explanation.finding.Found.{Found}
use Rattle.pt_script.specs.declared.explanation.finding.Reached.{Reached}
use Rattle.pt_script.specs.declared.explanation.finding.Reached.TheVariants.{At, Before}
use Rattle.pt_script.specs.declared.explanation.why.Label.{Label}
use Rattle.pt_script.specs.declared.explanation.why.Label.TheVariants.{Name, Index}
use Rattle.pt_script.specs.declared.explanation.why.Scene.{Scene}
use Rattle.pt_script.specs.declared.explanation.why.Scene.TheVariants as scene

-- the text that a member is
abbrev pub text_in : List ℕ → Data → Option (List ℕ)
text_in member d = option_and_then as_str (get member d)

-- the list that a member is, and an empty one here it is none
abbrev pub list_in : List ℕ → Data → List Data
list_in member d = loose (required list (get member d))

-- the processes that an operation begins, down to so many levels
abbrev pub spawned_in : ℕ → Data → List Data
spawned_in levels d = if is_spawn d then processes_in levels d else []

-- the process behind so many of these; or they are no more, and so many are left to pass
abbrev pub LeadsTo : List Data → ℕ → Reached → Type 0
LeadsTo ds left (At found) = OperationStands ds left (view found.value.now)
LeadsTo ds left (Before more) = (length ds ≤ left) × (more ≡ left - length ds)

-- the process with this number, if there is one
abbrev pub FindsProcess : List Data → ℕ → Option Found → Type 0
FindsProcess ds number (Some found) = OperationStands ds number (view found.value.now)
FindsProcess ds number None = length ds ≤ number

-- what it is called: the text of this member of it, or its number
abbrev pub IsLabelOf : List ℕ → Data → ℕ → Label → Type 0
IsLabelOf member d number (Name name) = text_in member d ≡ Some name.now
IsLabelOf member d number (Index index) = index ≡ number

-- the process with this number, and the operation of it with this index
abbrev pub process_in_place : List Data → ℕ → Data
process_in_place ds number = slice_index_or ds number null

abbrev pub operation_in_place : List Data → ℕ → ℕ → Data
operation_in_place ds number index = slice_index_or (list_in (codes "ops") (process_in_place ds number)) index null

-- what is said is of a process, or of an operation of one, by what they are called
abbrev pub IsOfProcess : Data → ℕ → Scene → Type 0
IsOfProcess d number here =
    (label : Label) × IsLabelOf (codes "name") d number label × (here ≡ scene.Process label)

abbrev pub IsOfOperation : Data → ℕ → Data → ℕ → Scene → Type 0
IsOfOperation d number o index here =
    (process : Label) × (operation : Label) × IsLabelOf (codes "name") d number process
    × IsLabelOf (codes "op") o index operation
    × (here ≡ scene.Operation process operation)

-- what is said is of the place that was told: of the script, of a process, or of an operation
abbrev pub IsSaidAt : List Data → Option ℕ → Option ℕ → Scene → Type 0
IsSaidAt ds None op here = here ≡ scene.Script
IsSaidAt ds (Some number) None here = IsOfProcess (process_in_place ds number) number here
IsSaidAt ds (Some number) (Some index) here =
    IsOfOperation (process_in_place ds number) number (operation_in_place ds number index) index here

abbrev pub IsAtPlace : Data → Place → Scene → Type 0
IsAtPlace d place here = IsSaidAt (all_processes d) place.process place.op here

-- of bytes: they are too long; they are a value, and it is of the place there; or they are none
abbrev pub IsSaidOf : List ℕ → Place → Scene → Type 0
IsSaidOf bytes place here =
    ((MAX_BYTES < length bytes) × (here ≡ scene.Script))
    ⊎ ((d : Data) × (read bytes ≡ Some d) × IsAtPlace d place here)
    ⊎ ((IsUtf8 bytes → read bytes ≡ None) × (here ≡ scene.Script))
