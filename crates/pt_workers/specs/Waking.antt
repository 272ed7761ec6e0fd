-- Who has something new by a journal's events: who got an item, or ended.
use Rattle.std.specs.Prelude.{◌≡◌, ℕ, ◌+◌, ◌<◌, ◌≤◌, max, Bool, true, false, List, length, slice_get, Option, Some, None, is_some}
use Rattle.std.specs.List.{find, list_any}
use Rattle.pt_signal.specs.declared.item.Pick.{Pick}
use Rattle.pt_signal.specs.declared.pid.Pid.{Pid}
use Rattle.pt_signal.specs.Values.{same_pid, fits}
use Rattle.pt_events.specs.declared.event.Event.{Event}
use Rattle.pt_events.specs.declared.event.Event.TheVariants.{Came, Left}
use Rattle.pt_events.specs.declared.event.Stamped.{Stamped}
use Rattle.pt_events.specs.History.{Phase, unborn, living, ended}

-- to whom a signal came, or who ended by its own exit
abbrev pub woken_by : Event → Option Pid
woken_by (Came p q x) = Some q
woken_by (Left p r) = Some p
woken_by _ = None

abbrev pub woken_at : Option Stamped → Option Pid
woken_at (Some s) = woken_by s.event
woken_at None = None

-- nobody is, by the events from one place to below another
abbrev pub NobodyIn : List Stamped → ℕ → ℕ → Type 0
NobodyIn events from to = (k : ℕ) → from ≤ k → k < to → woken_at (slice_get events k) ≡ None

-- p is the next from a place on, and the other place is the one behind
pub record IsNextWoken (events : List Stamped) (from next : ℕ) (p : Pid) : Type 0 where
  pub at : ℕ
  pub not_before : from ≤ at
  pub nobody : NobodyIn events from at
  pub is : woken_at (slice_get events at) ≡ Some p
  pub next_is : next ≡ at + 1

-- there is none any more
pub record NoneIsWoken (events : List Stamped) (from next : ℕ) : Type 0 where
  pub nobody : NobodyIn events from (length events)
  pub next_is : next ≡ max from (length events)

abbrev pub is_named : Pid → Option Pid → Bool
is_named p (Some q) = same_pid p q
is_named p None = false

-- the event woke p: a signal came to it, or it ended by a call of its own
abbrev pub came_to : Pid → Event → Bool
came_to p e = is_named p (woken_by e)

-- one of them did
abbrev pub came_in : Pid → List Stamped → Bool
came_in p events = list_any (λ (s : Stamped). came_to p s.event) events

-- a process in this phase need not wait for what k fits: such an item stands in its mailbox, or it has ended
abbrev pub need_not_wait : Pick → Phase → Bool
need_not_wait k unborn = false
need_not_wait k (living s) = is_some (find (fits k) s.waiting)
need_not_wait k (ended r s) = true
