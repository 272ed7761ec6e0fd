-- How far a supervisor has come in ending a child.
use Rattle.std.specs.Prelude.{ℕ, ◌+◌, ◌-◌, ◌^◌, min, cond, Bool, false, Option, Some, None}
use Rattle.pt_signal.specs.declared.pid.Pid.{Pid}
use Rattle.pt_signal.specs.declared.ids.Ref.{Ref}
use Rattle.pt_signal.specs.declared.item.Item.{Item}
use Rattle.pt_signal.specs.declared.item.Item.TheVariants.{Exit, Down}
use Rattle.pt_signal.specs.declared.reason.Reason.{Reason}
use Rattle.pt_signal.specs.Values.{same_pid, same_ref}
use Rattle.pt_children.specs.declared.asked.Asked.{Asked}
use Rattle.pt_children.specs.declared.asked.Stage.{Stage}
use Rattle.pt_children.specs.declared.asked.Stage.TheVariants.{Gone, Watched, Waiting, Until, Killed}
use Rattle.pt_children.specs.declared.children.Shutdown.{Shutdown}
use Rattle.pt_children.specs.declared.children.Shutdown.TheVariants.{Infinity, After, BrutalKill}

-- the monitor of one that is ended
abbrev pub monitor_of : Stage → Option Ref
monitor_of Gone = None
monitor_of (Watched m) = Some m
monitor_of (Waiting m) = Some m
monitor_of (Until m at) = Some m
monitor_of (Killed m) = Some m

-- there is a reference, and it is this one
abbrev pub is_ref : Option Ref → Ref → Bool
is_ref None m = false
is_ref (Some n) m = same_ref n m

-- the reason of the exit signal that one got at last
abbrev pub told_in : Stage → Option Reason
told_in Gone = None
told_in (Watched m) = None
told_in (Waiting m) = Some Reason.Shutdown
told_in (Until m at) = Some Reason.Shutdown
told_in (Killed m) = Some Reason.Kill

-- the reason of the exit signal by which a child is told to end
abbrev pub bids : Shutdown → Reason
bids Infinity = Reason.Shutdown
bids (After time) = Reason.Shutdown
bids BrutalKill = Reason.Kill

-- how far it has come with a child that it monitors and tells so now
abbrev pub stage_told : Shutdown → Ref → ℕ → Stage
stage_told Infinity m now = Waiting m
stage_told (After time) m now = Until m (min (now + time) (2 ^ 64 - 1))
stage_told BrutalKill m now = Killed m

-- how far it has come with p, if p is the one that it ends
abbrev pub stage_of : Option Asked → Pid → Option Stage
stage_of None p = None
stage_of (Some a) p = cond (same_pid a.pid p) (Some a.stage) None

-- the one that it found to have ended before
abbrev pub gone_at : Stage → Pid → Option Pid
gone_at Gone p = Some p
gone_at _ p = None

abbrev pub gone_in : Option Asked → Option Pid
gone_in None = None
gone_in (Some a) = gone_at a.stage a.pid

-- the one that it ends, unless it monitors that by m
abbrev pub unless_by : Ref → Option Asked → Option Asked
unless_by m None = None
unless_by m (Some a) = cond (is_ref (monitor_of a.stage) m) None (Some a)

-- the process of whose end it hears by an item, or, without one, as it has found that one to have ended
abbrev pub child_end_heard : Option Item → Option Asked → Option Pid
child_end_heard (Some (Exit from r)) asked = Some from
child_end_heard (Some (Down m from r)) asked = Some from
child_end_heard (Some _) asked = None
child_end_heard None asked = gone_in asked
