-- A script whose repeats are written out: each round has operations of its own, and tags of its own.
use Rattle.std.specs.Prelude.{◌≡◌, ℕ, zero, suc, ◌+◌, ◌-◌, List, [], ◌∷◌, ◌++◌, length, map, reverse, slice_get}
use Rattle.std.specs.Prelude.{slice_index_or, slice_set, nat_le, nat_lt, Bool, true, false, if◌then◌else◌, Option, Some, None}
use Rattle.std.specs.Prelude.{Result, Ok, Err, Vec}
use Rattle.std.specs.List.{All}
use Rattle.std.specs.declared.alloc.AllocError.{AllocError}
use Rattle.std.specs.declared.alloc.Global.{Global}
use Rattle.pt_script.specs.declared.fault.Fault.{Fault}
use Rattle.pt_script.specs.declared.fault.Fault.TheVariants.{Bounds, Field}
use Rattle.pt_script.specs.declared.fault.ScriptError.{ScriptError}
use Rattle.pt_script.specs.declared.fault.ScriptError.TheVariants.{Refused}
use Rattle.pt_script.specs.declared.limits.TheConstants.{MAX_OPERATIONS}
use Rattle.pt_script.specs.declared.unrolling.Block.{Block}
use Rattle.pt_script.specs.declared.unrolling.Block.TheVariants.{Branch, Loop, Otherwise}
use Rattle.pt_script.specs.declared.unrolling.Reached.{Reached as Writing}
use Rattle.pt_script.specs.declared.values.Operation.{Operation}
use Rattle.pt_script.specs.declared.values.Operation.TheVariants as operation
use Rattle.pt_script.specs.declared.values.Pattern.{Pattern}
use Rattle.pt_script.specs.declared.values.Pattern.TheVariants as pattern
use Rattle.pt_script.specs.Lists.{at_operation, ScriptRefuses}
use Rattle.pt_script.specs.Plans.{Plan, Whole}
use Rattle.pt_script.specs.Steps.{◌>>=◌}

-- how far a list is written out
pub record Reached : Type 0 where
  -- the place in the list as it is written
  pub place : ℕ
  -- the blocks around that place, the innermost first
  pub blocks : List Block
  -- what each tag of the list stands for now
  pub tags : List ℕ
  -- how many tags the operations that are written out make
  pub made : ℕ
  pub operations : List Operation

abbrev pub at_first : Reached
at_first = record { place = 0; blocks = []; tags = []; made = 0; operations = [] }

-- what a tag of the list stands for
abbrev pub tag_now : List ℕ → ℕ → ℕ
tag_now tags tag = slice_index_or tags tag 0

-- a tag of the list stands for this one from now on
abbrev pub with_tag : List ℕ → ℕ → ℕ → List ℕ
with_tag tags tag now = if nat_lt tag (length tags) then slice_set tags tag now else tags ++ now ∷ []

abbrev pub pattern_now : List ℕ → Pattern → Pattern
pattern_now tags (pattern.DownOf tag) = pattern.DownOf (tag_now tags tag)
pattern_now tags (pattern.AliveOf tag) = pattern.AliveOf (tag_now tags tag)
pattern_now tags p = p

-- an operation that makes no tag, with what its tags stand for
abbrev pub operation_now : List ℕ → Operation → Operation
operation_now tags (operation.Receive p) = operation.Receive (pattern_now tags p)
operation_now tags (operation.Check p) = operation.Check (pattern_now tags p)
operation_now tags (operation.ReceiveAfter p tries) = operation.ReceiveAfter (pattern_now tags p) tries
operation_now tags (operation.If p) = operation.If (pattern_now tags p)
operation_now tags (operation.Demonitor tag flush) = operation.Demonitor (tag_now tags tag) flush
operation_now tags o = o

-- behind an operation that is written out
abbrev pub with_operation : Reached → Operation → Reached
with_operation r o = record r { place = r.place + 1; operations = r.operations ++ operation_now r.tags o ∷ [] }

-- this tag of the list stands for the next one from now on
abbrev pub with_next : Reached → ℕ → Reached
with_next r tag = record r { tags = with_tag r.tags tag r.made; made = r.made + 1 }

-- behind an operation that makes this tag of the list
abbrev pub with_maker : Reached → ℕ → Operation → Reached
with_maker r tag o = record (with_next r tag) { place = r.place + 1; operations = r.operations ++ o ∷ [] }

-- behind one that begins a repeat
abbrev pub with_repeat : Reached → ℕ → Reached
with_repeat r times = record r { place = r.place + 1; blocks = Loop r.place (times - 1) ∷ r.blocks }

-- Where a list is written out up to: it ends, it goes on, or something is wrong with the operation at this place.
pub data Further : Type 0 where
  Ended : Further
  On : Reached → Further
  Wrong : ℕ → Further

-- an operation after which an `if` tests the item that was taken
abbrev pub may_branch : Option Operation → Bool
may_branch (Some (operation.Receive p)) = true
may_branch (Some (operation.ReceiveAfter p tries)) = true
may_branch (Some (operation.Check p)) = true
may_branch (Some (operation.If p)) = true
may_branch (Some operation.Else) = true
may_branch _ = false

-- the operation before a place
abbrev pub operation_before : List Operation → ℕ → Option Operation
operation_before os zero = None
operation_before os (suc place) = slice_get os place

abbrev pub at_branch : Bool → Reached → Pattern → Further
at_branch true r p = On (record (with_operation r (operation.If p)) { blocks = Branch r.place ∷ r.blocks })
at_branch false r p = Wrong r.place

abbrev pub at_else : List Block → Reached → Further
at_else (Branch at ∷ others) r = On (record (with_operation r operation.Else) { blocks = Otherwise at ∷ others })
at_else _ r = Wrong r.place

abbrev pub at_end : List Block → Reached → Further
at_end (Branch at ∷ others) r = On (record (with_operation r operation.End) { blocks = others })
at_end (Otherwise at ∷ others) r = On (record (with_operation r operation.End) { blocks = others })
at_end _ r = Wrong r.place

-- the rounds that are left of a repeat
abbrev pub next_round : ℕ → ℕ → List Block → Reached → Reached
next_round at zero others r = record r { place = r.place + 1; blocks = others }
next_round at (suc left) others r = record r { place = at + 1; blocks = Loop at left ∷ others }

abbrev pub at_again : List Block → Reached → Further
at_again (Loop at left ∷ others) r = On (next_round at left others r)
at_again _ r = Wrong r.place

-- the place of the operation that began a block
abbrev pub begun_at : Block → ℕ
begun_at (Branch at) = at
begun_at (Otherwise at) = at
begun_at (Loop at left) = at

-- where the list ends no block may be open
abbrev pub at_last : List Block → Further
at_last [] = Ended
at_last (b ∷ others) = Wrong (begun_at b)

-- past the next operation of the list
abbrev pub past_next : List Operation → Reached → Option Operation → Further
past_next os r None = at_last r.blocks
past_next os r (Some (operation.If p)) = at_branch (may_branch (operation_before os r.place)) r p
past_next os r (Some operation.Else) = at_else r.blocks r
past_next os r (Some operation.End) = at_end r.blocks r
past_next os r (Some (operation.Repeat times)) = On (with_repeat r times)
past_next os r (Some operation.Again) = at_again r.blocks r
past_next os r (Some (operation.Monitor to tag)) = On (with_maker r tag (operation.Monitor to r.made))
past_next os r (Some (operation.Alive to tag)) = On (with_maker r tag (operation.Alive to r.made))
past_next os r (Some o) = On (with_operation r o)

abbrev pub further : List Operation → Reached → Further
further os r = past_next os r (slice_get os r.place)

-- a list that is written out, and how many more operations a script may have behind it
pub record Unrolled : Type 0 where
  pub operations : List Operation
  pub left : ℕ

-- a fault of the operation at a place of the list as it is written
abbrev pub refused : Fault → ℕ → ℕ → ScriptError
refused fault process op = Refused fault (at_operation process op)

-- From here on with so many operations at most, where those that begin and end blocks count in each round. What is wrong
-- is told with its place in the list as it is written.
unfoldable pub onward : ℕ → ℕ → List Operation → Reached → Further → Result Unrolled ScriptError
onward left process os r Ended = Ok (record { operations = r.operations; left = left })
onward left process os r (Wrong op) = Err (refused Field process op)
onward zero process os r (On next) = Err (refused Bounds process r.place)
onward (suc left) process os r (On next) = onward left process os next (further os next)

abbrev pub unrolled_from : ℕ → ℕ → List Operation → Reached → Result Unrolled ScriptError
unrolled_from left process os r = onward left process os r (further os r)

-- the operations of a process
abbrev pub unrolled_list : ℕ → ℕ → List Operation → Result Unrolled ScriptError
unrolled_list left process os = unrolled_from left process os at_first

-- the processes, the first of which has this number
unfoldable pub unrolled_plans : ℕ → ℕ → List Plan → Result (List Plan) ScriptError
unrolled_plans left process [] = Ok []
unrolled_plans left process (p ∷ ps) = do
  one ← unrolled_list left process p.operations
  others ← unrolled_plans one.left (process + 1) ps
  Ok (record { trap = p.trap; operations = one.operations } ∷ others)

-- the processes of a script of this format as they are run: formats 1 and 2 have no repeats
abbrev pub unrolled_processes : ℕ → List Plan → Result (List Plan) ScriptError
unrolled_processes format ps = if nat_le 3 format then unrolled_plans MAX_OPERATIONS 0 ps else Ok ps

-- a script as it is run
abbrev pub unrolled : Whole → Result Whole ScriptError
unrolled w = do
  ps ← unrolled_processes w.settings.format w.processes
  Ok (record w { processes = ps })

-- an operation that neither begins nor ends a repeat
abbrev pub IsNoRepeat : Operation → Type 0
IsNoRepeat (operation.Repeat times) = ⊥
IsNoRepeat operation.Again = ⊥
IsNoRepeat o = Unit {0}

-- a list, and a script, in which nothing does
abbrev pub HasNoRepeat : Plan → Type 0
HasNoRepeat p = All IsNoRepeat p.operations

abbrev pub HasNoRepeats : Whole → Type 0
HasNoRepeats w = All HasNoRepeat w.processes

-- how far a list is written out, as plain data
abbrev pub reached_view : Writing → Reached
reached_view r = record {
  place = r.place;
  blocks = reverse r.blocks.items;
  tags = r.tags.items;
  made = r.made;
  operations = r.operations.items;
}

-- What going past an operation returns: whether it may stand at its place, and what is reached behind it then.
abbrev pub GoesPast : Result Bool AllocError → Reached → Reached → Further → Type 0
GoesPast (Ok true) old new further = further ≡ On new
GoesPast (Ok false) old new further = further ≡ Wrong old.place
GoesPast (Err e) old new further = Unit {0}

-- One step of a list: it leaves one operation less, or is refused as the list is.
abbrev pub GoesOneFurther : Result (Unit {0}) ScriptError → ℕ → ℕ → ℕ → List Operation → Reached → Reached → Type 0
GoesOneFurther (Ok _) left after process os old new = (further os old ≡ On new) × (left ≡ suc after)
GoesOneFurther (Err e) left after process os old new = ScriptRefuses e (unrolled_from left process os old)

abbrev pub WritesList : Result (Vec Operation Global) ScriptError → ℕ → Result Unrolled ScriptError → Type 0
WritesList (Ok os) left written = written ≡ Ok (record { operations = os.items; left = left })
WritesList (Err e) left written = ScriptRefuses e written

abbrev pub WritesPlans : Result (Vec Plan Global) ScriptError → Result (List Plan) ScriptError → Type 0
WritesPlans (Ok ps) written = written ≡ Ok ps.items
WritesPlans (Err e) written = ScriptRefuses e written

-- A script in which no process waits for an item: a receive that waits for some tries takes one or goes on at once. By
-- moves this is such a receive, since it may come any time to its end.
abbrev pub hurried_operation : Operation → Operation
hurried_operation (operation.ReceiveAfter p tries) = operation.Check p
hurried_operation o = o

abbrev pub hurried_plan : Plan → Plan
hurried_plan p = record p { operations = map hurried_operation p.operations }

abbrev pub hurried : Whole → Whole
hurried w = record w { processes = map hurried_plan w.processes }
