-- A script as a whole: its settings, the heads of its processes, their lists.
use Rattle.std.specs.Prelude.{◌≡◌, ℕ, zero, suc, ◌+◌, ◌-◌, min, List, [], ◌∷◌, ◌++◌, codes, length, map, Bool, false}
use Rattle.std.specs.Prelude.{nat_le, nat_lt, ◌==◌, if◌then◌else◌, Option, Some, None, count_by, sum_by, Result, Ok}
use Rattle.std.specs.Prelude.{Err, Vec}
use Rattle.std.specs.declared.alloc.Global.{Global}
use Rattle.std.specs.Map.{update}
use Rattle.std.specs.Str.{bytes_eq, is_utf8}
use Rattle.serde_json.specs.Data.{Data}
use Rattle.serde_json.specs.Find.{get}
use Rattle.serde_json.specs.Read.{read}
use Rattle.pt_script.specs.declared.fault.Fault.{Fault}
use Rattle.pt_script.specs.declared.fault.Fault.TheVariants.{Syntax, Bounds}
use Rattle.pt_script.specs.declared.fault.ScriptError.{ScriptError}
use Rattle.pt_script.specs.declared.fault.ScriptError.TheVariants.{Refused}
use Rattle.pt_script.specs.declared.values.Settings.{Settings}
use Rattle.pt_script.specs.declared.values.Top.{Top}
use Rattle.pt_script.specs.declared.limits.TheConstants.{DEFAULT_BUDGET, DEFAULT_LANE, DEFAULT_SLOTS, MAX_BUDGET}
use Rattle.pt_script.specs.declared.limits.TheConstants.{MAX_BYTES, MAX_DEPTH, MAX_DESKS, MAX_FORMAT, MAX_LANE}
use Rattle.pt_script.specs.declared.limits.TheConstants.{MAX_NESTING, MAX_PROCESSES, MAX_SLOTS}
use Rattle.pt_script.specs.Plans.{Plan, Whole}
use Rattle.pt_script.specs.Steps.{◌>>=◌, each}
use Rattle.pt_script.specs.Members.{known_members, whole_number, flag, list, required, optional_member}
use Rattle.pt_script.specs.Operations.{is_spawn, new_name}
use Rattle.pt_script.specs.Scopes.{Naming, naming}
use Rattle.pt_script.specs.Unrolling.{unrolled}
use Rattle.serde_json.specs.View.{view}
use Rattle.pt_script.specs.declared.heads.Heads.{Heads as HeadsRead}
use Rattle.pt_script.specs.declared.heads.Pending.{Pending as Unread}
use Rattle.pt_script.specs.Lists.{ScriptRefuses, placed, at_script, at_process, fresh_scope, list_at}

unfoldable pub settings : Data → Result Settings Fault
settings d = do
  _ ← known_members (codes "format" ∷ codes "desks" ∷ codes "slots" ∷ codes "top" ∷ codes "lane" ∷ codes "budget"
      ∷ codes "processes" ∷ []) d
  format ← required (whole_number 1 MAX_FORMAT) (get (codes "format") d)
  desks ← required (whole_number 1 MAX_DESKS) (get (codes "desks") d)
  slots ← optional_member DEFAULT_SLOTS (whole_number 1 MAX_SLOTS) (get (codes "slots") d)
  top ← optional_member 4294967295 (whole_number 1 4294967295) (get (codes "top") d)
  lane ← optional_member DEFAULT_LANE (whole_number 1 MAX_LANE) (get (codes "lane") d)
  budget ← optional_member DEFAULT_BUDGET (whole_number 1 MAX_BUDGET) (get (codes "budget") d)
  Ok (record { format = format; desks = desks; slots = slots; top_version = top; lane = lane; budget = budget })

-- the list of a member that is one, whatever else is wrong
abbrev pub loose : Result (List Data) Fault → List Data
loose (Ok ds) = ds
loose (Err e) = []

-- how many processes the spawns of a list begin, each spawn as many as begins says
abbrev pub spawned_by : (Data → ℕ) → List Data → ℕ
spawned_by begins ds = sum_by (λ d. if is_spawn d then begins d else 0) ds

-- How many processes a process and the spawns in it begin, whatever is wrong in them, down to so many levels. No text
-- nests more than `MAX_NESTING` of them.
unfoldable pub begun_in : ℕ → Data → ℕ
begun_in zero d = 1
begun_in (suc levels) d = 1 + spawned_by (λ op. begun_in levels op) (loose (required list (get (codes "ops") d)))

-- the number behind so many more; no script's text is long enough to reach the greatest one
abbrev pub number_behind : ℕ → ℕ → ℕ
number_behind number more = min (number + more) 4294967295

-- what a top-level process says, its operations apart
pub record Head : Type 0 where
  pub name : List ℕ
  pub desk : ℕ
  pub trap : Bool

-- a process whose operations are to be read
pub record Pending : Type 0 where
  pub trap : Bool
  -- the process as a value, with its `ops`
  pub value : Data

-- what the heads so far settle
pub record Heads : Type 0 where
  pub names : Naming
  pub tops : List Top
  pub unread : List Pending
  -- the number of the next one
  pub next : ℕ

abbrev pub no_heads : Heads
no_heads = record { names = λ _. None; tops = []; unread = []; next = 0 }

-- there is a slot left on that desk
abbrev pub room : Settings → List Top → ℕ → Result (Unit {0}) Fault
room s tops desk = if nat_lt (count_by (λ t. t.desk == desk) tops) s.slots then Ok tt else Err Bounds

unfoldable pub head : Settings → Heads → Data → Result Head Fault
head s before d = do
  _ ← known_members (codes "name" ∷ codes "desk" ∷ codes "trap" ∷ codes "ops" ∷ []) d
  name ← required (new_name before.names) (get (codes "name") d)
  desk ← required (whole_number 0 (s.desks - 1)) (get (codes "desk") d)
  _ ← room s before.tops desk
  trap ← optional_member false flag (get (codes "trap") d)
  Ok (record { name = name; desk = desk; trap = trap })

-- with one process more
abbrev pub with_head : Heads → Head → Data → Heads
with_head before h d = record {
  names = λ q. update bytes_eq before.names h.name (Some before.next) q;
  tops = before.tops ++ record { process = before.next; desk = h.desk } ∷ [];
  unread = before.unread ++ record { trap = h.trap; value = d } ∷ [];
  next = number_behind before.next (begun_in MAX_NESTING d);
}

abbrev pub few : ℕ → Result (Unit {0}) ScriptError
few number = if nat_le MAX_PROCESSES number then Err (Refused Bounds (at_process number)) else Ok tt

unfoldable pub next_head : Settings → Heads → Data → Result Heads ScriptError
next_head s before d = do
  _ ← few before.next
  h ← placed (at_process before.next) (head s before d)
  Ok (with_head before h d)

-- the processes that were read, and how many operations they have
pub record Lists : Type 0 where
  pub processes : List Plan
  pub seen : ℕ

abbrev pub no_lists : Lists
no_lists = record { processes = []; seen = 0 }

-- with the list of one process more
unfoldable pub next_list : ℕ → Naming → Lists → Pending → Result Lists ScriptError
next_list format names before h = do
  _ ← few (length before.processes)
  ops ← placed (at_process (length before.processes)) (required list (get (codes "ops") h.value))
  part ← list_at MAX_DEPTH (fresh_scope format (length before.processes) None names)
      (length before.processes + 1) before.seen ops
  Ok (record {
    processes = before.processes ++ record { trap = h.trap; operations = part.operations } ∷ part.inside;
    seen = part.seen;
  })

-- what a value says as a script, or the first fault in it
unfoldable pub script : Data → Result Whole ScriptError
script d = do
  s ← placed at_script (settings d)
  ds ← placed at_script (required list (get (codes "processes") d))
  all ← each (next_head s) no_heads ds
  rest ← each (next_list s.format all.names) no_lists all.unread
  Ok (record { settings = s; tops = all.tops; processes = rest.processes })

abbrev pub script_of : Option Data → Result Whole ScriptError
script_of None = Err (Refused Syntax at_script)
script_of (Some d) = script d

-- what bytes say as a script, as it is written: their number first, then their syntax, then the rest
unfoldable pub as_written : List ℕ → Result Whole ScriptError
as_written bytes = if nat_lt MAX_BYTES (length bytes) then Err (Refused Bounds at_script)
    else (if is_utf8 bytes then script_of (read bytes) else Err (Refused Syntax at_script))

-- what is said, as it is run: repeats are written out
abbrev pub as_run : Result Whole ScriptError → Result Whole ScriptError
as_run written = written >>= unrolled

-- the script that bytes say, as it is run
unfoldable pub reading : List ℕ → Result Whole ScriptError
reading bytes = as_run (as_written bytes)

-- what was returned is what the bytes say, where there was memory
abbrev pub Reads : {A : Type 0} → Result A ScriptError → Result A ScriptError → Type 0
Reads (Ok x) read = read ≡ Ok x
Reads (Err e) read = ScriptRefuses e read

-- the same of a value that is changed
abbrev pub Becomes : {A : Type 0} → A → Result (Unit {0}) ScriptError → Result A ScriptError → Type 0
Becomes new (Ok _) read = read ≡ Ok new
Becomes new (Err e) read = ScriptRefuses e read

abbrev pub pending_view : Unread → Pending
pending_view p = record { trap = p.trap; value = view p.value.now }

abbrev pub heads_view : HeadsRead → Heads
heads_view h = record { names = naming h.names; tops = h.tops; unread = map pending_view h.unread.items; next = h.next }

-- the same of the heads, and of the processes of the lists
abbrev pub ReadsHeads : Result HeadsRead ScriptError → Result Heads ScriptError → Type 0
ReadsHeads (Ok h) read = read ≡ Ok (heads_view h)
ReadsHeads (Err e) read = ScriptRefuses e read

abbrev pub ReadsPlans : Result (Vec Plan Global) ScriptError → Result Lists ScriptError → Type 0
ReadsPlans (Ok ps) read = (seen : ℕ) × (read ≡ Ok (record { processes = ps.items; seen = seen }))
ReadsPlans (Err e) read = ScriptRefuses e read
