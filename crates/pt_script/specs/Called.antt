-- What the processes of a script are called.
use Rattle.std.specs.Prelude.{ℕ, List, [], codes, if◌then◌else◌, map, Option, Some, None, Result, Ok, Err}
use Rattle.std.specs.Str.{is_utf8}
use Rattle.serde_json.specs.Data.{Data}
use Rattle.serde_json.specs.Find.{get}
use Rattle.serde_json.specs.Read.{read}
use Rattle.pt_script.specs.declared.fault.Fault.{Fault}
use Rattle.pt_script.specs.Members.{required, text}
use Rattle.pt_script.specs.Standing.{all_processes}

abbrev pub or_empty : Result (List ℕ) Fault → List ℕ
or_empty (Ok name) = name
or_empty (Err fault) = []

-- the name of a process; empty where it has none
abbrev pub name_of : Data → List ℕ
name_of d = or_empty (required text (get (codes "name") d))

abbrev pub names_of : Option Data → List (List ℕ)
names_of None = []
names_of (Some d) = map name_of (all_processes d)

-- the names of the processes of a text, in the order in which they begin
unfoldable pub names_in : List ℕ → List (List ℕ)
names_in bytes = if is_utf8 bytes then names_of (read bytes) else []
