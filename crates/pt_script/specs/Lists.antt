-- Lists of operations: places, numbers, limits, and spawns within spawns.
use Rattle.std.specs.Prelude.{◌≡◌, ℕ, zero, suc, ◌+◌, List, [], ◌∷◌, ◌++◌, codes, length, Bool, ◌&&◌, nat_le}
use Rattle.std.specs.Prelude.{if◌then◌else◌, Option, Some, None, Result, Ok, Err, Vec}
use Rattle.std.specs.Map.{update}
use Rattle.std.specs.declared.alloc.Global.{Global}
use Rattle.std.specs.Str.{bytes_eq}
use Rattle.serde_json.specs.Data.{Data}
use Rattle.serde_json.specs.Find.{get}
use Rattle.pt_script.specs.declared.fault.Fault.{Fault}
use Rattle.pt_script.specs.declared.fault.Fault.TheVariants.{Bounds}
use Rattle.pt_script.specs.declared.fault.Place.{Place}
use Rattle.pt_script.specs.declared.fault.ScriptError.{ScriptError}
use Rattle.pt_script.specs.declared.fault.ScriptError.TheVariants.{Refused, Memory}
use Rattle.pt_script.specs.declared.values.Operation.{Operation}
use Rattle.pt_script.specs.declared.values.Operation.TheVariants as operation
use Rattle.pt_script.specs.declared.limits.TheConstants.{MAX_OPERATIONS, MAX_PROCESSES}
use Rattle.pt_script.specs.Plans.{Plan}
use Rattle.pt_script.specs.Steps.{◌>>=◌}
use Rattle.pt_script.specs.Members.{required, text}
use Rattle.pt_script.specs.Operations.{is_spawn, plain, tagged, spawn}
use Rattle.pt_script.specs.Scopes.{Naming, Scope, can_ask}

abbrev pub at_script : Place
at_script = record { process = None; op = None }

abbrev pub at_process : ℕ → Place
at_process number = record { process = Some number; op = None }

abbrev pub at_operation : ℕ → ℕ → Place
at_operation number index = record { process = Some number; op = Some index }

-- what an object says, with the place of its fault
abbrev pub placed : {A : Type 0} → Place → Result A Fault → Result A ScriptError
placed place (Ok x) = Ok x
placed place (Err fault) = Err (Refused fault place)

-- what a list of operations says
pub record Part : Type 0 where
  pub operations : List Operation
  -- the processes that begin in it, in the order in which they begin
  pub inside : List Plan
  -- how many operations of the script have been read, with its own
  pub seen : ℕ

-- what one operation says
pub record Step : Type 0 where
  pub operation : Operation
  pub inside : List Plan
  pub seen : ℕ
  -- the scope behind it
  pub scope : Scope

-- how a list is read: in a scope, with the number of the next process, and how many operations have been read
abbrev pub ListReader : Type 0
ListReader = Scope → ℕ → ℕ → List Data → Result Part ScriptError

-- the scope at the begin of a list
abbrev pub fresh_scope : ℕ → ℕ → Option ℕ → Naming → Scope
fresh_scope format own parent tops = record {
  format = format;
  own = own;
  parent = parent;
  tops = tops;
  children = λ _. None;
  monitors = λ _. None;
  asks = λ _. None;
  made = 0;
}

-- the scope behind a spawn, a monitor, an ask
abbrev pub with_child : Scope → List ℕ → ℕ → Scope
with_child s name number = record s { children = λ q. update bytes_eq s.children name (Some number) q }

abbrev pub with_monitor : Scope → List ℕ → Scope
with_monitor s tag = record s { monitors = λ q. update bytes_eq s.monitors tag (Some s.made) q; made = s.made + 1 }

abbrev pub with_ask : Scope → List ℕ → Scope
with_ask s tag = record s { asks = λ q. update bytes_eq s.asks tag (Some s.made) q; made = s.made + 1 }

-- a process more than a script may have, an operation more, a spawn inside too many others
abbrev pub limits : Bool → Place → ℕ → ℕ → ℕ → Result (Unit {0}) ScriptError
limits spawns place levels next seen =
    if spawns && nat_le MAX_PROCESSES next then Err (Refused Bounds (at_process next))
    else (if nat_le MAX_OPERATIONS seen then Err (Refused Bounds place)
    else (if spawns && nat_le levels 0 then Err (Refused Bounds place) else Ok tt))

-- a spawn; its operations are read one level further in
abbrev pub spawned : ListReader → Place → Scope → ℕ → ℕ → Data → Result Step ScriptError
spawned read place s next seen d = do
  child ← placed place (spawn s d)
  part ← read (fresh_scope s.format next (Some s.own) s.tops) (next + 1) seen child.ops
  Ok (record {
    operation = operation.Spawn next child.linked;
    inside = record { trap = child.trap; operations = part.operations } ∷ part.inside;
    seen = part.seen;
    scope = with_child s child.name next;
  })

-- an operation that spawns nothing, and the scope behind it
abbrev pub named_operation : Scope → List ℕ → Data → Result (Operation × Scope) Fault
named_operation s op d =
    if bytes_eq op (codes "monitor") then (tagged s d >>= λ m. Ok (operation.Monitor m.0 s.made, with_monitor s m.1))
    else (if bytes_eq op (codes "alive") && can_ask s
    then (tagged s d >>= λ m. Ok (operation.Alive m.0 s.made, with_ask s m.1))
    else (plain s op d >>= λ o. Ok (o, s)))

abbrev pub simple : Scope → Data → Result (Operation × Scope) Fault
simple s d = do
  op ← required text (get (codes "op") d)
  named_operation s op d

-- one operation, where the operations of a spawn are read by read, and so many spawns may still stand around one
unfoldable pub one_at : ListReader → ℕ → ℕ → Scope → ℕ → ℕ → Data → Result Step ScriptError
one_at read levels index s next seen d = do
  _ ← limits (is_spawn d) (at_operation s.own index) levels next seen
  if is_spawn d then spawned read (at_operation s.own index) s next (seen + 1) d
      else (placed (at_operation s.own index) (simple s d) >>= λ o.
      Ok (record { operation = o.0; inside = []; seen = seen + 1; scope = o.1 }))

-- the operations of a list from an index on
unfoldable pub list_with : ListReader → ℕ → ℕ → ListReader
list_with read levels index s next seen [] = Ok (record { operations = []; inside = []; seen = seen })
list_with read levels index s next seen (d ∷ ds) = do
  one ← one_at read levels index s next seen d
  rest ← list_with read levels (index + 1) one.scope (next + length one.inside) one.seen ds
  Ok (record { operations = one.operation ∷ rest.operations; inside = one.inside ++ rest.inside; seen = rest.seen })

-- no list is read below the last level
abbrev pub no_list : ListReader
no_list s next seen ds = Ok (record { operations = []; inside = []; seen = seen })

-- the operations of a list from an index on, with so many levels of spawns in it at most
unfoldable pub list_from : ℕ → ℕ → ListReader
list_from zero index s next seen ds = list_with no_list zero index s next seen ds
list_from (suc levels) index s next seen ds =
    list_with (λ t n k es. list_from levels 0 t n k es) (suc levels) index s next seen ds

-- a list as a whole
abbrev pub list_at : ℕ → ListReader
list_at levels s next seen ds = list_from levels 0 s next seen ds

-- one operation of such a list
unfoldable pub step_at : ℕ → ℕ → Scope → ℕ → ℕ → Data → Result Step ScriptError
step_at zero index s next seen d = one_at no_list zero index s next seen d
step_at (suc levels) index s next seen d =
    one_at (λ t n k es. list_from levels 0 t n k es) (suc levels) index s next seen d

-- ---- what a function answers

-- an answer that reading gives, where there was memory
abbrev pub ScriptRefuses : {A : Type 0} → ScriptError → Result A ScriptError → Type 0
ScriptRefuses Memory read = Unit {0}
ScriptRefuses (Refused fault place) read = read ≡ Err (Refused fault place)

-- what was returned is what reading gives; processes before and after, operations read after
abbrev pub ReadsList : List Plan → List Plan → ℕ → Result (Vec Operation Global) ScriptError → Result Part ScriptError
    → Type 0
ReadsList old new seen (Ok os) read = (inside : List Plan) × (read ≡ Ok (record {
  operations = os.items;
  inside = inside;
  seen = seen;
})) × (new ≡ old ++ inside)
ReadsList old new seen (Err e) read = ScriptRefuses e read

abbrev pub ReadsStep : List Plan → List Plan → ℕ → Scope → Result Operation ScriptError → Result Step ScriptError
    → Type 0
ReadsStep old new seen after (Ok o) read = (inside : List Plan) × (read ≡ Ok (record {
  operation = o;
  inside = inside;
  seen = seen;
  scope = after;
})) × (new ≡ old ++ inside)
ReadsStep old new seen after (Err e) read = ScriptRefuses e read

abbrev pub ReadsProcess : Bool → List Plan → List Plan → ℕ → Result (Unit {0}) ScriptError → Result Part ScriptError
    → Type 0
ReadsProcess trap old new seen (Ok _) read =
    (part : Part) × (read ≡ Ok part) × (seen ≡ part.seen)
    × (new ≡ old ++ record { trap = trap; operations = part.operations } ∷ part.inside)
ReadsProcess trap old new seen (Err e) read = ScriptRefuses e read

-- an operation that spawns nothing
abbrev pub ReadsSimple : Place → Scope → Result Operation ScriptError → Result (Operation × Scope) Fault → Type 0
ReadsSimple place after (Ok o) read = read ≡ Ok (o, after)
ReadsSimple place after (Err e) read = ScriptRefuses e (placed place read)
