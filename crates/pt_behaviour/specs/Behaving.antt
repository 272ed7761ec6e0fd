-- What a behaviour may answer, what its process waits for then, and which items were taken.
use Rattle.std.specs.Prelude.{ℕ, List, [], ◌∷◌, Option, Some, None}
use Rattle.pt_signal.specs.declared.pid.Pid.{Pid}
use Rattle.pt_signal.specs.declared.item.Item.{Item}
use Rattle.pt_signal.specs.declared.item.Pick.{Pick}
use Rattle.pt_events.specs.declared.event.Event.{Event}
use Rattle.pt_events.specs.declared.event.Event.TheVariants.{Took}
use Rattle.pt_events.specs.declared.event.Stamped.{Stamped}
use Rattle.pt_shard.specs.ShardState.{ShardState}
use Rattle.pt_behaviour.specs.declared.behaviour.Next.{Next}
use Rattle.pt_behaviour.specs.declared.behaviour.Next.TheVariants.{Wait, WaitUntil}
use Rattle.pt_behaviour.specs.declared.births.Role.{Role}

-- what a behaviour may answer at one time: it and its desk before, the process, the item or none, what the process does
-- next, it and its desk afterwards, and whom it bore
abbrev pub AnswersNow : Type 0 → Type 1
AnswersNow B = B → ShardState → Pid → Option Item → Next → B → ShardState → List (Role B) → Type 0

-- what it may answer at each time: the time is that of the step in which it is handed the item, or none
abbrev pub Answers : Type 0 → Type 1
Answers B = ℕ → AnswersNow B

-- the pick that it waits for
abbrev pub pick_of : Next → Option Pick
pick_of (Wait k) = Some k
pick_of (WaitUntil k at) = Some k
pick_of _ = None

-- the time until which it waits
abbrev pub limit_of : Next → Option ℕ
limit_of (WaitUntil k at) = Some at
limit_of _ = None

-- whoever took an item, and the item
abbrev pub takes_by : Event → List (Pid × Item) → List (Pid × Item)
takes_by (Took p k i) taken = (p, i) ∷ taken
takes_by _ taken = taken

-- all that was taken, the newest first
abbrev pub takes : List Stamped → List (Pid × Item)
takes [] = []
takes (s ∷ journal) = takes_by s.event (takes journal)
