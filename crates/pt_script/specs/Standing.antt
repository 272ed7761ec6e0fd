-- Where the processes of a script stand in the text.
use Rattle.std.specs.Prelude.{◌≡◌, ℕ, zero, suc, ◌<◌, List, [], ◌∷◌, ◌++◌, codes, length, slice_index_or, true}
use Rattle.std.specs.Prelude.{if◌then◌else◌, Option, Some, None}
use Rattle.serde_json.specs.Data.{Data, null, string}
use Rattle.serde_json.specs.Find.{get}
use Rattle.pt_script.specs.declared.fault.Place.{Place}
use Rattle.pt_script.specs.declared.values.Operation.{Operation}
use Rattle.pt_script.specs.declared.values.Operation.TheVariants.{Spawn}
use Rattle.pt_script.specs.declared.values.Top.{Top}
use Rattle.pt_script.specs.declared.limits.TheConstants.{MAX_NESTING}
use Rattle.pt_script.specs.Plans.{Plan, Whole}
use Rattle.pt_script.specs.Members.{required, list}
use Rattle.pt_script.specs.Operations.{is_spawn}
use Rattle.pt_script.specs.Scopes.{Naming}
use Rattle.pt_script.specs.Lists.{at_script}
use Rattle.pt_script.specs.Scripts.{loose}

-- the operations of a process, as values
abbrev pub ops_of : Data → List Data
ops_of d = loose (required list (get (codes "ops") d))

-- the processes that begin in the spawns of a list, where inside has those of a spawn
abbrev pub spawns_in : (Data → List Data) → List Data → List Data
spawns_in inside [] = []
spawns_in inside (d ∷ ds) = (if is_spawn d then inside d else []) ++ spawns_in inside ds

-- a process, and those that begin in it, in the order in which they begin, down to so many levels
unfoldable pub processes_in : ℕ → Data → List Data
processes_in zero d = d ∷ []
processes_in (suc levels) d = d ∷ spawns_in (λ op. processes_in levels op) (ops_of d)

abbrev pub processes_of : List Data → List Data
processes_of [] = []
processes_of (d ∷ ds) = processes_in MAX_NESTING d ++ processes_of ds

-- the processes of a script, in the order in which they begin, whatever is wrong in them; no text nests more of them
abbrev pub all_processes : Data → List Data
all_processes d = processes_of (loose (required list (get (codes "processes") d)))

-- the process with this number is this value
abbrev pub OperationStands : List Data → ℕ → Data → Type 0
OperationStands all n d = (n < length all) × (slice_index_or all n null ≡ d)

-- the process and the operation that a place names are among them
abbrev pub IsAmong : List Data → Option ℕ → Option ℕ → Type 0
IsAmong all None None = Unit {0}
IsAmong all None (Some k) = ⊥
IsAmong all (Some n) None = n < length all
IsAmong all (Some n) (Some k) = (n < length all) × (k < length (ops_of (slice_index_or all n null)))

-- a place in what was read: where nothing was, the script as a whole
abbrev pub HasPlaceIn : Option Data → Place → Type 0
HasPlaceIn None place = place ≡ at_script
HasPlaceIn (Some d) place = IsAmong (all_processes d) place.process place.op

-- a spawn of the text is one of the script, with the number of the process that it spawns
abbrev pub SpawnsAt : List Data → Data → Operation → Type 0
SpawnsAt all d (Spawn n linked) = OperationStands all n d
SpawnsAt all d _ = ⊥

abbrev pub IsOperationOf : List Data → Operation → Data → Type 0
IsOperationOf all o d = is_spawn d ≡ true → SpawnsAt all d o

-- operation for operation
abbrev pub AreOperationsOf : List Data → List Operation → List Data → Type 0
AreOperationsOf all [] [] = Unit {0}
AreOperationsOf all (o ∷ os) (d ∷ ds) = IsOperationOf all o d × AreOperationsOf all os ds
AreOperationsOf all _ _ = ⊥

-- process for process
abbrev pub ArePlansOf : List Data → List Plan → List Data → Type 0
ArePlansOf all [] [] = Unit {0}
ArePlansOf all (p ∷ ps) (d ∷ ds) = AreOperationsOf all p.operations (ops_of d) × ArePlansOf all ps ds
ArePlansOf all _ _ = ⊥

-- the processes that the script begins with, each by its number
abbrev pub AreTopsOf : List Data → List Top → List Data → Type 0
AreTopsOf all [] [] = Unit {0}
AreTopsOf all (t ∷ ts) (d ∷ ds) = OperationStands all t.process d × AreTopsOf all ts ds
AreTopsOf all _ _ = ⊥

-- the number that a name stands for is that of the process which has this name
abbrev pub AreNamesOf : List Data → Naming → Type 0
AreNamesOf all names =
    (q : List ℕ) (n : ℕ) → names q ≡ Some n
    → (n < length all) × (get (codes "name") (slice_index_or all n null) ≡ Some (string q))

-- the numbers of a script are the places of its processes in the text
pub record IsNumbered (d : Data) (w : Whole) : Type 0 where
  pub plans : ArePlansOf (all_processes d) w.processes (all_processes d)
  pub tops : AreTopsOf (all_processes d) w.tops (loose (required list (get (codes "processes") d)))
