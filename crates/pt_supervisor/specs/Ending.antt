-- How far a supervisor has come in ending a child.
use Rattle.std.specs.Prelude.{◌-◌, Bool, true, false, List, [], ◌∷◌}
use Rattle.pt_signal.specs.declared.item.Item.{Item}
use Rattle.pt_signal.specs.declared.item.Pick.{Pick}
use Rattle.pt_events.specs.History.{Phase, living}
use Rattle.pt_shard.specs.declared.fault.Fault.TheVariants.{NoProc}
use Rattle.pt_behaviour.specs.declared.behaviour.Next.{Next}
use Rattle.pt_behaviour.specs.declared.behaviour.Next.TheVariants.{Wait, WaitUntil, Proceed}
use Rattle.pt_behaviour.specs.declared.call_fault.CallFault.{CallFault}
use Rattle.pt_children.specs.declared.asked.Stage.{Stage}
use Rattle.pt_children.specs.declared.asked.Stage.TheVariants.{Gone, Watched, Waiting, Until, Killed}

-- it waits for the DOWN of one that it has told to end, until a time if there is one
abbrev pub next_at_stage : Stage → Next
next_at_stage Gone = Proceed
next_at_stage (Watched m) = Proceed
next_at_stage (Waiting m) = Wait (Pick.DownOf m)
next_at_stage (Until m at) = WaitUntil (Pick.DownOf m) at
next_at_stage (Killed m) = Wait (Pick.DownOf m)

-- a call was refused since the one that it was to reach has ended
abbrev pub is_noproc : CallFault → Bool
is_noproc (CallFault.Refused NoProc) = true
is_noproc _ = false

-- What it does next where some children are not started: it takes the first item that is there, or goes on without one.
abbrev pub next_behind : List Item → Next
next_behind [] = Proceed
next_behind (i ∷ items) = WaitUntil Pick.Any 0

abbrev pub next_tried : Phase → Next
next_tried (living s) = next_behind s.waiting
next_tried _ = Proceed
