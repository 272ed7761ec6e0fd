-- Whom a runtime has to wake after a turn: who got an item, or ended.
use Rattle.std.specs.Prelude.{◌≡◌, ℕ, ◌⊎◌, false, List, [], ◌∷◌, Option}
use Rattle.pt_signal.specs.declared.pid.Pid.{Pid}
use Rattle.pt_events.specs.declared.event.Event.{Event}
use Rattle.pt_events.specs.declared.event.Stamped.{Stamped}
use Rattle.pt_events.specs.History.{Past, Start, life, arrives, reason_of, is_the}
use Rattle.pt_workers.specs.Waking.{woken_by, IsNextWoken, NoneIsWoken}
use Rattle.pt_c_values.specs.declared.types.PtPid.{PtPid}
use Rattle.pt_c_values.specs.Codes.{nothing_there}
use Rattle.pt_c_values.specs.Crossing.{pid_out}

-- the next from a place on, with the place behind it
pub record WokenNext (code from next : ℕ) (after : PtPid) (events : List Stamped) : Type 0 where
  pub done : code ≡ 0
  pub pid : Pid
  pub is_next : IsNextWoken events from next pid
  pub after_is : after ≡ pid_out pid

-- or there is none any more
pub record WokenNone (code from next : ℕ) (before after : PtPid) (events : List Stamped) : Type 0 where
  pub none : code ≡ nothing_there
  pub nobody : NoneIsWoken events from next
  pub same : after ≡ before

abbrev pub Woken : ℕ → ℕ → ℕ → PtPid → PtPid → List Stamped → Type 0
Woken code from next before after events =
    WokenNext code from next after events ⊎ WokenNone code from next before after events

-- by an event, over whatever was before, only this one may get an item or end: everyone else gets none, and is ended
-- afterwards, and why, just where it was before
pub record OnlyWakes (who : Option Pid) (e : Event) : Type 0 where
  pub items : (start : Start) (past : Past) (p : Pid) → is_the p who ≡ false → arrives start past p e ≡ []
  pub ends : (start : Start) (past : Past) (p : Pid) → is_the p who ≡ false
      → reason_of (life start (e ∷ past) p) ≡ reason_of (life start past p)

-- so nobody who got an item or ended is missed
abbrev pub NobodyIsMissed : Type 0
NobodyIsMissed = (e : Event) → OnlyWakes (woken_by e) e
