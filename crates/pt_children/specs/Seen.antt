-- What a supervisor tells of its children.
use Rattle.std.specs.Prelude.{Bool, true, false, ◌||◌, List, length, Option, Some, None, is_some}
use Rattle.std.specs.List.{count_by}
use Rattle.pt_signal.specs.declared.pid.Pid.{Pid}
use Rattle.pt_children.specs.declared.children.Child.{Child}
use Rattle.pt_children.specs.declared.seen.ChildState.{ChildState}
use Rattle.pt_children.specs.declared.seen.ChildState.TheVariants.{Running, Restarting, Undefined}
use Rattle.pt_children.specs.declared.seen.ChildSeen.{ChildSeen}
use Rattle.pt_children.specs.declared.seen.ChildCounts.{ChildCounts}
use Rattle.pt_children.specs.Children.{is_missing}
use Rattle.pt_children.specs.Homes.{is_abroad}

-- what has become of a child's process: it is alive, is to be started, or neither
abbrev pub state_of_child : Option Pid → Bool → ChildState
state_of_child (Some p) wanted = Running p
state_of_child None true = Restarting
state_of_child None false = Undefined

-- one that is being started on another desk is to be started, also if it is not wanted any more
abbrev pub child_state : Child → ChildState
child_state c = state_of_child c.pid (c.wanted || is_abroad c.home)

abbrev pub child_seen : Child → ChildSeen
child_seen c = record { id = c.id; state = child_state c }

-- it is alive, by all that its supervisor has heard
abbrev pub has_process : Child → Bool
has_process c = is_some c.pid

-- how many there are, how many of them are alive, and how many are to be started
abbrev pub children_counted : List Child → ChildCounts
children_counted children = record {
  specs = length children;
  active = count_by has_process children;
  restarting = count_by is_missing children;
}
