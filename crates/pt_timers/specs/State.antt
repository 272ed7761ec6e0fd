-- Timers as their callers see them.
use Rattle.std.specs.Prelude.{ℕ, ◌<◌, List, Option, IsSome}
use Rattle.std.specs.Map.{lookup}
use Rattle.std.specs.BTreeMap.{BTreeMap, is_at}
use Rattle.pt_timers.specs.declared.Timer.{Timer}
use Rattle.pt_timers.specs.Order.{timer_order}

pub record TimersState (T : Type 0) : Type 0 where
  -- how many were ever started: the number of the next one
  pub started : ℕ
  -- those that are pending, each with its body
  pub pending : List (Timer × T)

module _ {T : Type 0} where
  abbrev pub state : ℕ → BTreeMap Timer T → TimersState T
  state started pending = record { started = started; pending = pending.entries }

  -- the body of a pending timer
  abbrev pub body_of : TimersState T → Timer → Option T
  body_of s t = lookup (is_at (timer_order t)) s.pending

  abbrev pub IsPending : TimersState T → Timer → Type 0
  IsPending s t = IsSome (body_of s t)

  -- a timer that is pending was started
  abbrev pub IsSound : TimersState T → Type 0
  IsSound s = (t : Timer) → IsPending s t → t.number < s.started
