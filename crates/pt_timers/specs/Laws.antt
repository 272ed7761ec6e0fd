-- What holds of timers through any sequence of calls.
use Rattle.std.specs.Prelude.{◌≡◌, ℕ, ◌≤◌, cond, true, false, List, [], ◌∷◌, ◌++◌, Option, Some, None, Ok}
use Rattle.std.specs.Ordering.{is_gt}
use Rattle.pt_timers.specs.declared.Timer.{Timer}
use Rattle.pt_timers.specs.declared.Fired.{Fired}
use Rattle.pt_timers.specs.Order.{timer_order, same_timer}
use Rattle.pt_timers.specs.State.{TimersState, body_of}
use Rattle.pt_timers.specs.Calls.{IsNone, Starts, Cancels, Fires}

-- what a call did; a call that was refused, or answered `false` or `None`, did nothing
pub data Deed (T : Type 0) : Type 0 where
  start : Timer → T → Deed T
  cancel : Timer → Deed T
  fire : ℕ → Fired T → Deed T

-- what became of a timer
pub data Fate (T : Type 0) : Type 0 where
  unknown : Fate T
  pending : T → Fate T
  fired : Fate T
  cancelled : Fate T

module _ {T : Type 0} where
  -- what became of it by a deed, where it was so before
  abbrev pub fate_by : Timer → Deed T → Fate T → Fate T
  fate_by u (start t body) before = cond (same_timer t u) (pending body) before
  fate_by u (cancel t) before = cond (same_timer t u) cancelled before
  fate_by u (fire now f) before = cond (same_timer f.timer u) fired before

  -- what became of it by all that was done, the newest deed in front
  abbrev pub fate_of : Timer → List (Deed T) → Fate T
  fate_of t [] = unknown
  fate_of t (deed ∷ past) = fate_by t deed (fate_of t past)

  -- a call did this
  abbrev pub Does : Deed T → TimersState T → TimersState T → Type 0
  Does (start t body) old new = Starts t.at body old (Ok t) new
  Does (cancel t) old new = Cancels t old true new
  Does (fire now f) old new = Fires now old (Some f) new

  -- from no timers on, the calls did all this, and left the timers so
  abbrev pub Leads : List (Deed T) → TimersState T → Type 0
  Leads [] s = IsNone s
  Leads (deed ∷ past) s = (before : TimersState T) × Leads past before × Does deed before s

  abbrev pub body_as : Fate T → Option T
  body_as (pending body) = Some body
  body_as _ = None

  -- it fired or was cancelled, and so it stays
  abbrev pub StaysSo : Fate T → Fate T → Type 0
  StaysSo fired after = after ≡ fired
  StaysSo cancelled after = after ≡ cancelled
  StaysSo _ after = Unit {0}

-- each timer has one fate, whatever the times that the calls were given
pub record IsLawful (T : Type 0) : Type 0 where
  -- those that are pending are those that were started, and neither fired nor were cancelled since, each with its body
  pub are_pending : (past : List (Deed T)) (s : TimersState T) → Leads past s
      → (t : Timer) → body_of s t ≡ body_as (fate_of t past)
  -- what fired or was cancelled stays so for ever
  pub once : (past later : List (Deed T)) (s : TimersState T) → Leads (later ++ past) s
      → (t : Timer) → StaysSo (fate_of t past) (fate_of t (later ++ past))
  -- a timer that is started is one that there never was
  pub new : (past : List (Deed T)) (s : TimersState T) (t : Timer) (body : T) → Leads (start t body ∷ past) s
      → fate_of t past ≡ unknown
  -- a timer fires with its body, and not before its time
  pub not_early : (past : List (Deed T)) (s : TimersState T) (now : ℕ) (f : Fired T) → Leads (fire now f ∷ past) s
      → (f.timer.at ≤ now) × (fate_of f.timer past ≡ pending f.body)
  -- of all that are pending the first one fires, in the order of times and then of starting
  pub in_order : (past : List (Deed T)) (s : TimersState T) (now : ℕ) (f : Fired T) → Leads (fire now f ∷ past) s
      → (u : Timer) (body : T) → fate_of u past ≡ pending body → is_gt (timer_order f.timer u) ≡ false
