-- How a script is written as a value: a process is called `n` and its number, a tag `t` and its number.
use Rattle.std.specs.Prelude.{ℕ, zero, suc, List, [], ◌++◌, codes, decimal, map, slice_index_or, Bool, false, ◌==◌}
use Rattle.std.specs.Prelude.{if◌then◌else◌, Option, Some, None}
use Rattle.serde_json.specs.Data.{Data, unsigned, boolean, number, string, array, object, no_members}
use Rattle.serde_json.specs.View.{items_of}
use Rattle.pt_script.specs.declared.values.Top.{Top}
use Rattle.pt_script.specs.declared.values.Operation.{Operation}
use Rattle.pt_script.specs.declared.values.Operation.TheVariants.{Spawn}
use Rattle.pt_script.specs.declared.limits.TheConstants.{MAX_DEPTH}
use Rattle.pt_script.specs.Plans.{Plan, Whole}
use Rattle.pt_script.specs.Sights.{is_parent}
use Rattle.pt_script.specs.Writing.{Called, with, written_operation}

abbrev pub process_name : ℕ → List ℕ
process_name n = codes "n" ++ decimal n

abbrev pub tag_name : ℕ → List ℕ
tag_name n = codes "t" ++ decimal n

-- what a process is called by the operations of a process that another one spawned
abbrev pub name_by : ℕ → Option ℕ → ℕ → List ℕ
name_by own parent n =
    if own == n then codes "self" else (if is_parent n parent then codes "parent" else process_name n)

abbrev pub calls : ℕ → Option ℕ → Called
calls own parent = record { process = name_by own parent; tag = tag_name }

abbrev pub no_plan : Plan
no_plan = record { trap = false; operations = [] }

-- the process with this number
abbrev pub plan_of : List Plan → ℕ → Plan
plan_of all n = slice_index_or all n no_plan

abbrev pub spawn_written : ℕ → Bool → Bool → List Data → Data
spawn_written n linked trap ops =
    object
    (with (codes "linked") (boolean linked)
    (with (codes "name") (string (process_name n))
    (with (codes "op") (string (codes "spawn"))
    (with (codes "ops") (array (items_of ops)) (with (codes "trap") (boolean trap) no_members)))))

-- an operation, where lists has the written operations of a process that it spawns
abbrev pub operation_written : (ℕ → List Data) → List Plan → Called → Operation → Data
operation_written lists all c (Spawn n linked) = spawn_written n linked (plan_of all n).trap (lists n)
operation_written lists all c o = written_operation c o

-- the operations of a process that another one spawned, down to so many lists within one another
unfoldable pub list_written : ℕ → List Plan → Option ℕ → ℕ → List Data
list_written zero all parent own = []
list_written (suc levels) all parent own =
    map (operation_written (λ n. list_written levels all (Some own) n) all (calls own parent))
    (plan_of all own).operations

-- a process that the script begins with
abbrev pub top_written : List Plan → Top → Data
top_written all t =
    object
    (with (codes "desk") (number (unsigned t.desk))
    (with (codes "name") (string (process_name t.process))
    (with (codes "ops") (array (items_of (list_written (suc MAX_DEPTH) all None t.process)))
    (with (codes "trap") (boolean (plan_of all t.process).trap) no_members))))

abbrev pub script_written : Whole → Data
script_written w =
    object
    (with (codes "budget") (number (unsigned w.settings.budget))
    (with (codes "desks") (number (unsigned w.settings.desks))
    (with (codes "format") (number (unsigned w.settings.format))
    (with (codes "lane") (number (unsigned w.settings.lane))
    (with (codes "processes") (array (items_of (map (top_written w.processes) w.tops)))
    (with (codes "slots") (number (unsigned w.settings.slots))
    (with (codes "top") (number (unsigned w.settings.top_version)) no_members)))))))
