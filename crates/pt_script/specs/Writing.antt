-- How an operation is written as a value.
use Rattle.std.specs.Prelude.{◌≡◌, ℕ, ◌^◌, ◌<◌, ◌≤◌, ℤ, pos, negsuc, true, List, codes, Option, Some, None, ⊤}
use Rattle.serde_json.specs.Data.{Data, unsigned, boolean, number, string, object, Members, no_members, member}
use Rattle.serde_json.specs.Find.{of_integer}
use Rattle.pt_signal.specs.declared.reason.Reason.{Reason}
use Rattle.pt_signal.specs.declared.reason.Reason.TheVariants.{Other}
use Rattle.pt_signal.specs.Text.{reason_text}
use Rattle.pt_script.specs.declared.values.Pattern.{Pattern}
use Rattle.pt_script.specs.declared.values.Pattern.TheVariants as pattern
use Rattle.pt_script.specs.declared.values.Operation.{Operation}
use Rattle.pt_script.specs.declared.values.Operation.TheVariants as operation
use Rattle.pt_script.specs.declared.limits.TheConstants.{MAX_TIMES}
use Rattle.pt_script.specs.Scopes.{Scope, can_ask, has_blocks, process_in, tag_in, is_script_name}
use Rattle.pt_script.specs.Lists.{with_monitor, with_ask}

-- what processes and tags are called, by their numbers
pub record Called : Type 0 where
  pub process : ℕ → List ℕ
  pub tag : ℕ → List ℕ

-- a member, before others of the object: an object has its members in the order of their names
abbrev pub with : List ℕ → Data → Members → Members
with name value others = member name value others

abbrev pub pick_written : Called → Pattern → Members → Members
pick_written c pattern.Any others = others
pick_written c (pattern.Kind kind) others =
    with (codes "pick") (object (with (codes "kind") (number (unsigned kind)) no_members)) others
pick_written c (pattern.From n) others =
    with (codes "pick") (object (with (codes "from") (string (c.process n)) no_members)) others
pick_written c (pattern.ExitOf n) others =
    with (codes "pick") (object (with (codes "exit") (string (c.process n)) no_members)) others
pick_written c (pattern.DownOf tag) others =
    with (codes "pick") (object (with (codes "down") (string (c.tag tag)) no_members)) others
pick_written c (pattern.AliveOf tag) others =
    with (codes "pick") (object (with (codes "alive") (string (c.tag tag)) no_members)) others

abbrev pub who_written : Called → Option ℕ → Members
who_written c None = no_members
who_written c (Some n) = with (codes "who") (string (c.process n)) no_members

-- an operation as a value; a spawn is not written here
abbrev pub written_operation : Called → Operation → Data
written_operation c (operation.Send to kind num who) =
    object
    (with (codes "kind") (number (unsigned kind))
    (with (codes "num") (number (of_integer num))
    (with (codes "op") (string (codes "send")) (with (codes "to") (string (c.process to)) (who_written c who)))))
written_operation c (operation.Receive p) = object (with (codes "op") (string (codes "receive")) (pick_written c p no_members))
written_operation c (operation.Check p) = object (with (codes "op") (string (codes "check")) (pick_written c p no_members))
written_operation c (operation.Link to) =
    object (with (codes "op") (string (codes "link")) (with (codes "to") (string (c.process to)) no_members))
written_operation c (operation.Unlink to) =
    object (with (codes "op") (string (codes "unlink")) (with (codes "to") (string (c.process to)) no_members))
written_operation c (operation.Monitor to tag) =
    object
    (with (codes "op") (string (codes "monitor"))
    (with (codes "tag") (string (c.tag tag)) (with (codes "to") (string (c.process to)) no_members)))
written_operation c (operation.Demonitor tag flush) =
    object
    (with (codes "flush") (boolean flush)
    (with (codes "op") (string (codes "demonitor")) (with (codes "tag") (string (c.tag tag)) no_members)))
written_operation c (operation.Alive to tag) =
    object
    (with (codes "op") (string (codes "alive"))
    (with (codes "tag") (string (c.tag tag)) (with (codes "to") (string (c.process to)) no_members)))
written_operation c (operation.Trap on) =
    object (with (codes "on") (boolean on) (with (codes "op") (string (codes "trap")) no_members))
written_operation c (operation.Exit reason) =
    object (with (codes "op") (string (codes "exit")) (with (codes "reason") (string (reason_text reason)) no_members))
written_operation c (operation.Signal to reason) =
    object
    (with (codes "op") (string (codes "signal"))
    (with (codes "reason") (string (reason_text reason)) (with (codes "to") (string (c.process to)) no_members)))
written_operation c (operation.Spawn process linked) = object no_members
written_operation c operation.Pass = object (with (codes "op") (string (codes "pass")) no_members)
written_operation c (operation.ReceiveAfter p tries) =
    object
    (with (codes "after") (number (unsigned tries))
    (with (codes "op") (string (codes "receive")) (pick_written c p no_members)))
written_operation c (operation.If p) = object (with (codes "op") (string (codes "if")) (pick_written c p no_members))
written_operation c operation.Else = object (with (codes "op") (string (codes "else")) no_members)
written_operation c operation.End = object (with (codes "op") (string (codes "end")) no_members)
written_operation c (operation.Repeat times) =
    object (with (codes "op") (string (codes "repeat")) (with (codes "times") (number (unsigned times)) no_members))
written_operation c operation.Again = object (with (codes "op") (string (codes "again")) no_members)

-- in this scope the process is called so
abbrev pub IsCalled : Scope → Called → ℕ → Type 0
IsCalled s c n = process_in s (c.process n) ≡ Some n

abbrev pub IsCalledIfAny : Scope → Called → Option ℕ → Type 0
IsCalledIfAny s c None = ⊤
IsCalledIfAny s c (Some n) = IsCalled s c n

abbrev pub CanPick : Scope → Called → Pattern → Type 0
CanPick s c pattern.Any = ⊤
CanPick s c (pattern.Kind kind) = kind < 2 ^ 32
CanPick s c (pattern.From n) = IsCalled s c n
CanPick s c (pattern.ExitOf n) = IsCalled s c n
CanPick s c (pattern.DownOf tag) = s.monitors (c.tag tag) ≡ Some tag
CanPick s c (pattern.AliveOf tag) = (can_ask s ≡ true) × (s.asks (c.tag tag) ≡ Some tag)

abbrev pub WritesReason : Reason → Type 0
WritesReason (Other n) = n < 2 ^ 32
WritesReason _ = ⊤

abbrev pub FitsSigned : ℤ → Type 0
FitsSigned (pos n) = n < 2 ^ 63
FitsSigned (negsuc n) = n < 2 ^ 63

-- the tag is the next one, and is called by a new name
abbrev pub IsNewTag : Scope → Called → ℕ → Type 0
IsNewTag s c tag = (tag ≡ s.made) × (is_script_name (c.tag tag) ≡ true) × (tag_in s (c.tag tag) ≡ None)

-- what can be said in this scope: its numbers are in their ranges, and its processes and tags have names there
abbrev pub CanSay : Scope → Called → Operation → Type 0
CanSay s c (operation.Send to kind num who) = IsCalled s c to × (kind < 2 ^ 32) × FitsSigned num × IsCalledIfAny s c who
CanSay s c (operation.Receive p) = CanPick s c p
CanSay s c (operation.Check p) = CanPick s c p
CanSay s c (operation.Link to) = IsCalled s c to
CanSay s c (operation.Unlink to) = IsCalled s c to
CanSay s c (operation.Monitor to tag) = IsCalled s c to × IsNewTag s c tag
CanSay s c (operation.Demonitor tag flush) = s.monitors (c.tag tag) ≡ Some tag
CanSay s c (operation.Alive to tag) = (can_ask s ≡ true) × IsCalled s c to × IsNewTag s c tag
CanSay s c (operation.Trap on) = ⊤
CanSay s c (operation.Exit reason) = WritesReason reason
CanSay s c (operation.Signal to reason) = IsCalled s c to × WritesReason reason
CanSay s c (operation.Spawn process linked) = ⊥
CanSay s c operation.Pass = ⊤
CanSay s c (operation.ReceiveAfter p tries) = (has_blocks s ≡ true) × CanPick s c p × (tries ≤ MAX_TIMES)
CanSay s c (operation.If p) = (has_blocks s ≡ true) × CanPick s c p
CanSay s c operation.Else = has_blocks s ≡ true
CanSay s c operation.End = has_blocks s ≡ true
CanSay s c (operation.Repeat times) = (has_blocks s ≡ true) × (1 ≤ times) × (times ≤ MAX_TIMES)
CanSay s c operation.Again = has_blocks s ≡ true

-- the scope behind it
abbrev pub scope_behind : Scope → Called → Operation → Scope
scope_behind s c (operation.Monitor to tag) = with_monitor s (c.tag tag)
scope_behind s c (operation.Alive to tag) = with_ask s (c.tag tag)
scope_behind s c _ = s
