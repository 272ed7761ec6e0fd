-- What a supervisor does about a child that is started on another desk.
use Rattle.std.specs.Prelude.{◌≡◌, ℕ, ◌==◌, ◌||◌, Bool, is_some, List, Option, Some, None, MatchBool, Result, Ok, Err}
use Rattle.std.specs.Prelude.{position, slice_set}
use Rattle.pt_signal.specs.declared.pid.Pid.{Pid}
use Rattle.pt_signal.specs.declared.item.Pick.{Pick}
use Rattle.pt_signal.specs.Values.{is_pid}
use Rattle.pt_shard.specs.declared.fault.Fault.{Fault}
use Rattle.pt_shard.specs.declared.fault.Fault.TheVariants.{NoProc}
use Rattle.pt_shard.specs.Known.{knows}
use Rattle.pt_shard.specs.Calls.{Calls, link_event}
use Rattle.pt_desk.specs.DeskState.{DeskState}
use Rattle.pt_desk.specs.Reaching.{Reaches, has_link_to_make}
use Rattle.pt_behaviour.specs.declared.behaviour.Next.{Next}
use Rattle.pt_behaviour.specs.declared.behaviour.Next.TheVariants.{Wait, Proceed}
use Rattle.pt_behaviour.specs.declared.call_fault.CallFault.{CallFault}
use Rattle.pt_behaviour.specs.declared.call_fault.CallFault.TheVariants.{Unknown, Refused}
use Rattle.pt_behaviour.specs.Telling.{IfKnown}
use Rattle.pt_children.specs.declared.children.Child.{Child}
use Rattle.pt_children.specs.declared.home.Home.{Home}
use Rattle.pt_children.specs.declared.home.Home.TheVariants.{Arrived, Missed}
use Rattle.pt_children.specs.Hearing.{Standing}
use Rattle.pt_children.specs.Trying.{joined_child, missed_child, refused_child}

-- a process that is no new child of another desk: it is of the supervisor's desk, or is a child already
abbrev pub is_no_newcomer : Pid → Pid → List Child → Bool
is_no_newcomer me p children = (p.shard == me.shard) || is_some (position (λ c. is_pid c.pid p) children)

-- a link of me with p, by a call
abbrev pub LinksTo : Pid → Pid → DeskState → Result (Unit {0}) CallFault → DeskState → Type 0
LinksTo me p old result new =
    IfKnown (knows old.shard p)
    (λ r. Reaches (has_link_to_make old.shard me p) me p (Calls me (link_event old.shard me p) (tt {0}) old.shard r new.shard) old
    r new) old result new

-- me links with p, unless p is no new child
abbrev pub LinksNew : Pid → Pid → List Child → DeskState → Result (Unit {0}) CallFault → DeskState → Type 0
LinksNew me p children old result new =
    MatchBool (is_no_newcomer me p children) ((result ≡ Err (Refused NoProc)) × (new ≡ old)) (LinksTo me p old result new)

-- the child c is the process p, with which its supervisor is linked, or is not started, as the desk's clock is so far
abbrev pub joined_as : ℕ → Pid → Child → Result (Unit {0}) CallFault → Child
joined_as clock p c (Ok x) = joined_child p c
joined_as clock p c (Err Unknown) = missed_child clock NoProc c
joined_as clock p c (Err (Refused f)) = missed_child clock f c

-- The supervisor links with the process that the program has started as the child c at a place. It ends nobody now. Where
-- it cannot, the child was not started.
pub record JoinsChild (me : Pid) (place : ℕ) (p : Pid) (c : Child) (old : Standing) (d : DeskState) (new : Standing)
    (e : DeskState) : Type 0 where
  pub result : Result (Unit {0}) CallFault
  pub links : LinksNew me p old.children d result e
  pub new_is : new ≡ record old { children = slice_set old.children place (joined_as e.shard.clock p c result); asked = None }

-- the child c at a place was not started for this reason, as the clock of the supervisor's desk is so far; it ends nobody now
abbrev pub Misses : ℕ → ℕ → Fault → Child → Standing → Standing → Type 0
Misses place clock f c old new =
    new ≡ record old { children = slice_set old.children place (refused_child clock f c); asked = None }

-- It links with a child that was started, and notes of one that it was not; until then it waits, and starts no other, and
-- ends none.
abbrev pub MeetsAs : Pid → ℕ → Child → Home → Standing → DeskState → Next → Standing → DeskState → Type 0
MeetsAs me place c (Arrived p) old d next new e = (next ≡ Proceed) × JoinsChild me place p c old d new e
MeetsAs me place c (Missed f) old d next new e = (next ≡ Proceed) × Misses place d.shard.clock f c old new × (e ≡ d)
MeetsAs me place c _ old d next new e = (next ≡ Wait Pick.Any) × (new ≡ old) × (e ≡ d)

abbrev pub MeetsIn : Pid → ℕ → Option Child → Standing → DeskState → Next → Standing → DeskState → Type 0
MeetsIn me place None old d next new e = ⊥
MeetsIn me place (Some c) old d next new e = MeetsAs me place c c.home old d next new e
