-- A supervisor that was changed from outside: whom it remembers, and what it does next as it stands.
use Rattle.std.specs.Prelude.{length, Option, Some, None}
use Rattle.pt_signal.specs.declared.pid.Pid.{Pid}
use Rattle.pt_signal.specs.declared.item.Pick.{Pick}
use Rattle.pt_events.specs.History.{Past}
use Rattle.pt_shard.specs.ShardState.{ShardState}
use Rattle.pt_behaviour.specs.declared.behaviour.Next.{Next}
use Rattle.pt_behaviour.specs.declared.behaviour.Next.TheVariants.{Wait, WaitUntil, Proceed}
use Rattle.pt_children.specs.declared.asked.Stage.{Stage}
use Rattle.pt_children.specs.declared.asked.Stage.TheVariants.{Waiting, Until, Killed}
use Rattle.pt_children.specs.declared.children.Shutdown.{Shutdown}
use Rattle.pt_children.specs.declared.children.Shutdown.TheVariants.{Infinity}
use Rattle.pt_children.specs.Children.{last_alive}
use Rattle.pt_children.specs.Ending.{stage_of}
use Rattle.pt_children.specs.Hearing.{Standing}
use Rattle.pt_supervisor.specs.Keeping.{Remembers}

-- a supervisor that forgets nobody as it was forgets nobody as it is, also once it has ended
abbrev pub RemembersWhere : Standing → Standing → Type 0
RemembersWhere was is =
    (past : Past) (me : Pid) (d : ShardState) → Remembers past was.children was.started me d
    → Remembers past is.children is.started me d

-- of the child that it ends so, as far as it has come: it waits for the DOWN, where it has told the child to end
abbrev pub due_at : Option Stage → Shutdown → Next
due_at (Some (Waiting m)) Infinity = Wait (Pick.DownOf m)
due_at (Some (Until m at)) shutdown = WaitUntil (Pick.DownOf m) at
due_at (Some (Killed m)) shutdown = Wait (Pick.DownOf m)
due_at _ shutdown = Proceed

abbrev pub due_for : Option (Pid × Shutdown) → Standing → Next
due_for None s = Proceed
due_for (Some (p, shutdown)) s = due_at (stage_of s.asked p) shutdown

-- of the last that is to end
abbrev pub next_due : Standing → Next
next_due s = due_for (last_alive s.children s.ending (length s.children)) s
