-- What a supervisor and its children are made of, as C has it, and the codes of calls about a child. A field that the code
-- gives no meaning to is zero.
use Rattle.std.specs.Prelude.{ℕ, ◌==◌, Bool, false, cond, List, map, Option, Some, None, is_some}
use Rattle.std.specs.List.{list_all}
use Rattle.std.specs.Option.{option_map}
use Rattle.pt_signal.specs.declared.pid.Pid.{Pid}
use Rattle.pt_children.specs.declared.children.Child.{Child}
use Rattle.pt_children.specs.declared.children.Shutdown.{Shutdown}
use Rattle.pt_children.specs.declared.children.Shutdown.TheVariants.{Infinity, After, BrutalKill}
use Rattle.pt_children.specs.declared.restart.Restart.{Restart}
use Rattle.pt_children.specs.declared.restart.Restart.TheVariants.{Permanent, Transient, Temporary}
use Rattle.pt_children.specs.declared.restart.Strategy.{Strategy}
use Rattle.pt_children.specs.declared.restart.Strategy.TheVariants.{OneForOne, OneForAll, RestForOne}
use Rattle.pt_children.specs.declared.spec.ChildSpec.{ChildSpec}
use Rattle.pt_children.specs.declared.spec.SupervisorSpec.{SupervisorSpec}
use Rattle.pt_c_values.specs.Crossing.{pid_crossed, pid_or_none, reason_out}
use Rattle.pt_c_values.specs.declared.types.PtChild.{PtChild}
use Rattle.pt_c_values.specs.declared.types.PtChildSpec.{PtChildSpec}
use Rattle.pt_c_values.specs.declared.types.PtSupervisorSpec.{PtSupervisorSpec}
use Rattle.std.specs.Prelude.{Result, Ok, Err}
use Rattle.pt_children.specs.declared.child_fault.ChildFault.{ChildFault}
use Rattle.pt_children.specs.declared.gave_up.GaveUp.{GaveUp}
use Rattle.pt_children.specs.declared.seen.ChildCounts.{ChildCounts}
use Rattle.pt_c_values.specs.declared.types.PtChildCounts.{PtChildCounts}
use Rattle.pt_c_values.specs.declared.types.PtGaveUp.{PtGaveUp}

-- what is passed in: none, where a code is none of its enumeration -----------------------

abbrev pub strategy_in : ℕ → Option Strategy
strategy_in code =
    cond (code == 0) (Some OneForOne) (cond (code == 1) (Some OneForAll) (cond (code == 2) (Some RestForOne) None))

abbrev pub restart_in : ℕ → Option Restart
restart_in code =
    cond (code == 0) (Some Permanent) (cond (code == 1) (Some Transient) (cond (code == 2) (Some Temporary) None))

abbrev pub shutdown_in : ℕ → ℕ → Option Shutdown
shutdown_in code time =
    cond (code == 0) (Some Infinity) (cond (code == 1) (Some (After time)) (cond (code == 2) (Some BrutalKill) None))

abbrev pub child_with : ℕ → Bool → Option Restart → Option Shutdown → Option ChildSpec
child_with tag elsewhere (Some restart) (Some shutdown) =
    Some (record { tag = tag; restart = restart; shutdown = shutdown; elsewhere = elsewhere })
child_with tag elsewhere _ _ = None

abbrev pub child_in : PtChildSpec → Option ChildSpec
child_in c = child_with c.tag c.elsewhere (restart_in c.restart) (shutdown_in c.shutdown c.time)

-- a child, and some other where a code is none of its enumeration
abbrev pub child_or : Option ChildSpec → ChildSpec
child_or (Some c) = c
child_or None = record { tag = 0; restart = Temporary; shutdown = Infinity; elsewhere = false }

-- each child, if each has codes of its enumerations
abbrev pub children_in : List PtChildSpec → Option (List ChildSpec)
children_in cs = cond (list_all (λ c. is_some (child_in c)) cs) (Some (map (λ c. child_or (child_in c)) cs)) None

abbrev pub parent_in : PtSupervisorSpec → Option Pid
parent_in s = cond s.has_parent (Some (pid_crossed s.parent)) None

abbrev pub spec_in : PtSupervisorSpec → Option SupervisorSpec
spec_in s = option_map (λ (y : Strategy). record {
  strategy = y;
  most = s.most;
  span = s.span;
  timed = s.timed;
  parent = parent_in s;
}) (strategy_in s.strategy)

-- what is passed out ---------------------------------------------------------------------

abbrev pub strategy_code : Strategy → ℕ
strategy_code OneForOne = 0
strategy_code OneForAll = 1
strategy_code RestForOne = 2

abbrev pub restart_code : Restart → ℕ
restart_code Permanent = 0
restart_code Transient = 1
restart_code Temporary = 2

abbrev pub shutdown_code : Shutdown → ℕ
shutdown_code Infinity = 0
shutdown_code (After time) = 1
shutdown_code BrutalKill = 2

abbrev pub shutdown_time : Shutdown → ℕ
shutdown_time (After time) = time
shutdown_time _ = 0

abbrev pub child_out : Child → PtChild
child_out c = record {
  has_pid = is_some c.pid;
  wanted = c.wanted;
  pid = pid_or_none c.pid;
  restart = restart_code c.restart;
  shutdown = shutdown_code c.shutdown;
  time = shutdown_time c.shutdown;
}

-- how many children a supervisor has
abbrev pub counts_out : ChildCounts → PtChildCounts
counts_out c = record { specs = c.specs; active = c.active; restarting = c.restarting }

-- why a supervisor gave up
abbrev pub cause_out : GaveUp → PtGaveUp
cause_out g = record {
  tag = g.id;
  place = g.place;
  reason = reason_out g.reason;
  restarts = g.restarts;
  span = g.span;
  timed = g.timed;
}

-- what a call about a child returns ------------------------------------------------------

-- the code of a refusal
abbrev pub child_fault_code : ChildFault → ℕ
child_fault_code ChildFault.NotFound = 8
child_fault_code ChildFault.Running = 23
child_fault_code ChildFault.Restarting = 24
child_fault_code ChildFault.AlreadyPresent = 25
child_fault_code (ChildFault.AlreadyStarted p) = 23
child_fault_code ChildFault.NotAwaited = 8
child_fault_code ChildFault.Memory = 2

-- where p is no supervisor there is nothing of what was asked for
abbrev pub child_code : {A : Type 0} → Option (Result A ChildFault) → ℕ
child_code None = 8
child_code (Some (Ok a)) = 0
child_code (Some (Err f)) = child_fault_code f

-- the place or the tag of the child is written, if there is one
abbrev pub told_after : {A : Type 0} → Option (Result A ChildFault) → A → A
told_after (Some (Ok value)) before = value
told_after _ before = before
