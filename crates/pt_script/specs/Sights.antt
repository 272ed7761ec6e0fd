-- Which scripts are well formed: processes are numbered in the order in which they begin, and what an operation names
-- is in sight where it stands.
use Rattle.std.specs.Prelude.{◌≡◌, ◌≤◌, ◌<◌, ℕ, zero, suc, ◌+◌, ◌^◌, List, [], ◌∷◌, ◌++◌, length, map, Bool, true}
use Rattle.std.specs.Prelude.{false, ◌||◌, ◌==◌, Option, Some, None, count_by, ⊤}
use Rattle.pt_script.specs.declared.values.Settings.{Settings}
use Rattle.pt_script.specs.declared.values.Top.{Top}
use Rattle.pt_script.specs.declared.values.Pattern.{Pattern}
use Rattle.pt_script.specs.declared.values.Pattern.TheVariants as pattern
use Rattle.pt_script.specs.declared.values.Operation.{Operation}
use Rattle.pt_script.specs.declared.values.Operation.TheVariants as operation
use Rattle.pt_script.specs.Plans.{Plan, Whole}
use Rattle.pt_script.specs.declared.limits.TheConstants.{MAX_DEPTH, MAX_OPERATIONS, MAX_PROCESSES, MAX_TIMES}
use Rattle.pt_script.specs.Sound.{InRange, operations_of}
use Rattle.pt_script.specs.Writing.{WritesReason, FitsSigned}

-- what an operation can name, by number
pub record NameSight : Type 0 where
  -- the script's format, 1 to 3
  pub format : ℕ
  -- the process that does it
  pub own : ℕ
  -- the process that spawned that one
  pub parent : Option ℕ
  -- the processes that the script begins with
  pub tops : List ℕ
  -- the processes that earlier operations of the list spawned
  pub children : List ℕ
  -- the tags of earlier monitors of the list
  pub monitors : List ℕ
  -- the tags of earlier asks of the list
  pub asks : List ℕ
  -- how many tags those are together
  pub made : ℕ

abbrev pub among : ℕ → List ℕ → Bool
among n [] = false
among n (k ∷ ks) = (k == n) || among n ks

abbrev pub is_parent : ℕ → Option ℕ → Bool
is_parent n None = false
is_parent n (Some k) = k == n

-- oneself, the process that spawned one, one's children so far, and the processes that the script begins with
abbrev pub sees : NameSight → ℕ → Bool
sees v n = (v.own == n) || is_parent n v.parent || among n v.children || among n v.tops

abbrev pub SeesIfAny : NameSight → Option ℕ → Type 0
SeesIfAny v None = ⊤
SeesIfAny v (Some n) = sees v n ≡ true

abbrev pub SeesAllOf : NameSight → Pattern → Type 0
SeesAllOf v pattern.Any = ⊤
SeesAllOf v (pattern.Kind kind) = kind < 2 ^ 32
SeesAllOf v (pattern.From n) = sees v n ≡ true
SeesAllOf v (pattern.ExitOf n) = sees v n ≡ true
SeesAllOf v (pattern.DownOf tag) = among tag v.monitors ≡ true
SeesAllOf v (pattern.AliveOf tag) = among tag v.asks ≡ true

-- an operation that spawns nothing names what is in sight, its numbers are in their ranges, and a tag that it makes is
-- the next one
abbrev pub CanDo : NameSight → Operation → Type 0
CanDo v (operation.Send to kind num who) = (sees v to ≡ true) × (kind < 2 ^ 32) × FitsSigned num × SeesIfAny v who
CanDo v (operation.Receive p) = SeesAllOf v p
CanDo v (operation.Check p) = SeesAllOf v p
CanDo v (operation.Link to) = sees v to ≡ true
CanDo v (operation.Unlink to) = sees v to ≡ true
CanDo v (operation.Monitor to tag) = (sees v to ≡ true) × (tag ≡ v.made)
CanDo v (operation.Demonitor tag flush) = among tag v.monitors ≡ true
CanDo v (operation.Alive to tag) = (2 ≤ v.format) × (sees v to ≡ true) × (tag ≡ v.made)
CanDo v (operation.Trap on) = ⊤
CanDo v (operation.Exit reason) = WritesReason reason
CanDo v (operation.Signal to reason) = (sees v to ≡ true) × WritesReason reason
CanDo v (operation.Spawn process linked) = ⊥
CanDo v operation.Pass = ⊤
CanDo v (operation.ReceiveAfter p tries) = (3 ≤ v.format) × SeesAllOf v p × (tries ≤ MAX_TIMES)
CanDo v (operation.If p) = (3 ≤ v.format) × SeesAllOf v p
CanDo v operation.Else = 3 ≤ v.format
CanDo v operation.End = 3 ≤ v.format
CanDo v (operation.Repeat times) = (3 ≤ v.format) × (1 ≤ times) × (times ≤ MAX_TIMES)
CanDo v operation.Again = 3 ≤ v.format

-- what is in sight behind an operation
abbrev pub sight_behind : NameSight → Operation → NameSight
sight_behind v (operation.Monitor to tag) = record v { monitors = v.made ∷ v.monitors; made = v.made + 1 }
sight_behind v (operation.Alive to tag) = record v { asks = v.made ∷ v.asks; made = v.made + 1 }
sight_behind v (operation.Spawn process linked) = record v { children = process ∷ v.children }
sight_behind v _ = v

-- what is in sight at the begin of a list
abbrev pub first_sight : ℕ → ℕ → Option ℕ → List ℕ → NameSight
first_sight format own parent tops = record {
  format = format;
  own = own;
  parent = parent;
  tops = tops;
  children = [];
  monitors = [];
  asks = [];
  made = 0;
}

-- a list of operations begins these processes, in this order, the first of which has this number
abbrev pub Begins : Type 1
Begins = NameSight → ℕ → List Operation → List Plan → Type 0

-- an operation begins these: a spawn its process, which is the next one, and those that its list begins
abbrev pub StepBegins : Begins → NameSight → ℕ → Operation → List Plan → Type 0
StepBegins Inner v next (operation.Spawn n linked) [] = ⊥
StepBegins Inner v next (operation.Spawn n linked) (child ∷ inside) =
    (n ≡ next) × Inner (first_sight v.format next (Some v.own) v.tops) (next + 1) child.operations inside
StepBegins Inner v next o plans = CanDo v o × (plans ≡ [])

-- a list those of its first operation, and then those of the others
abbrev pub ListBegins : Begins → Begins
ListBegins Inner v next [] plans = plans ≡ []
ListBegins Inner v next (o ∷ os) plans =
    (mine : List Plan) × (others : List Plan) × (plans ≡ mine ++ others) × StepBegins Inner v next o mine
    × ListBegins Inner (sight_behind v o) (next + length mine) os others

abbrev pub NoneBegins : Begins
NoneBegins v next os plans = ⊥

-- with so many levels of spawns at most
unfoldable pub BeginsIn : ℕ → Begins
BeginsIn zero v next os plans = ListBegins NoneBegins v next os plans
BeginsIn (suc levels) v next os plans = ListBegins (λ u n qs ps. BeginsIn levels u n qs ps) v next os plans

-- the processes that a script begins with, each with those that begin in it
abbrev pub TopsBegin : Settings → List ℕ → ℕ → List Top → List Plan → Type 0
TopsBegin s tops next [] plans = plans ≡ []
TopsBegin s tops next (t ∷ ts) plans =
    (first : Plan) × (inside : List Plan) × (others : List Plan) × (plans ≡ first ∷ inside ++ others)
    × (t.process ≡ next) × (t.desk < s.desks)
    × BeginsIn MAX_DEPTH (first_sight s.format next None tops) (next + 1) first.operations inside
    × TopsBegin s tops (next + 1 + length inside) ts others

abbrev pub number_of : Top → ℕ
number_of t = t.process

pub record IsWellFormed (w : Whole) : Type 0 where
  pub settings : InRange w.settings
  pub begins : TopsBegin w.settings (map number_of w.tops) 0 w.tops w.processes
  -- no desk begins with more processes than it has slots
  pub room : (desk : ℕ) → count_by (λ t. t.desk == desk) w.tops ≤ w.settings.slots
  pub processes : length w.processes ≤ MAX_PROCESSES
  pub operations : operations_of w.processes ≤ MAX_OPERATIONS
