-- What each call of timers does.
use Rattle.std.specs.Prelude.{◌≡◌, ℕ, suc, ◌+◌, ◌<◌, ◌≤◌, cond, Bool, true, false, length, Option, Some, None, Result, Ok, Err}
use Rattle.std.specs.Ordering.{is_gt}
use Rattle.pt_timers.specs.declared.Timer.{Timer}
use Rattle.pt_timers.specs.declared.Fired.{Fired}
use Rattle.pt_timers.specs.declared.StartError.{StartError}
use Rattle.pt_timers.specs.declared.StartError.TheVariants.{Worn, Memory}
use Rattle.pt_timers.specs.Order.{timer_order, same_timer}
use Rattle.pt_timers.specs.State.{TimersState, body_of, IsPending}

-- the number at which no more timers are started: 2^64 - 1
abbrev pub last_number : ℕ
last_number = 18446744073709551615

module _ {T : Type 0} where
  -- nothing is pending, and nothing was started
  pub record IsNone (s : TimersState T) : Type 0 where
    pub pending : (t : Timer) → body_of s t ≡ None
    pub started : s.started ≡ 0

  -- one timer has this body, or none, and all others are as they were
  abbrev pub AreWith : Timer → Option T → TimersState T → TimersState T → Type 0
  AreWith t body old new = (u : Timer) → body_of new u ≡ cond (same_timer t u) body (body_of old u)

  -- the timer is a new one, of this time, and is pending
  pub record Started (at : ℕ) (body : T) (old : TimersState T) (t : Timer) (new : TimersState T) : Type 0 where
    pub timer : t ≡ record { at = at; number = old.started }
    pub is_new : body_of old t ≡ None
    pub pending : AreWith t (Some body) old new
    -- one more is pending
    pub more : length new.pending ≡ length old.pending + 1
    pub counted : new.started ≡ suc old.started

  abbrev pub Starts : ℕ → T → TimersState T → Result Timer (StartError T) → TimersState T → Type 0
  Starts at body old (Ok t) new = Started at body old t new
  Starts at body old (Err (Worn back)) new = (old.started ≡ last_number) × (back ≡ body) × (new ≡ old)
  Starts at body old (Err (Memory back)) new = (old.started < last_number) × (back ≡ body) × (new ≡ old)

  -- the timer was pending, and is not any more
  pub record Cancelled (t : Timer) (old new : TimersState T) : Type 0 where
    pub was : IsPending old t
    pub pending : AreWith t None old new
    pub fewer : length new.pending + 1 ≡ length old.pending
    pub started : new.started ≡ old.started

  abbrev pub Cancels : Timer → TimersState T → Bool → TimersState T → Type 0
  Cancels t old true new = Cancelled t old new
  Cancels t old false new = (body_of old t ≡ None) × (new ≡ old)

  -- the timer is pending with this body, its time has come, and no other that is pending comes before it
  pub record IsFirstDue (now : ℕ) (t : Timer) (body : T) (s : TimersState T) : Type 0 where
    pub due : t.at ≤ now
    pub pending : body_of s t ≡ Some body
    pub first : (u : Timer) → IsPending s u → is_gt (timer_order t u) ≡ false

  -- each timer that is pending is due later
  abbrev pub NoneDue : ℕ → TimersState T → Type 0
  NoneDue now s = (u : Timer) → IsPending s u → now < u.at

  -- the first timer that was due is pending no more
  pub record FiredAt (now : ℕ) (f : Fired T) (old new : TimersState T) : Type 0 where
    pub first : IsFirstDue now f.timer f.body old
    pub pending : AreWith f.timer None old new
    pub fewer : length new.pending + 1 ≡ length old.pending
    pub started : new.started ≡ old.started

  -- nothing fires only if none is due
  abbrev pub Fires : ℕ → TimersState T → Option (Fired T) → TimersState T → Type 0
  Fires now old (Some f) new = FiredAt now f old new
  Fires now old None new = NoneDue now old × (new ≡ old)

  -- the earliest time of those that are pending
  abbrev pub IsNext : TimersState T → Option ℕ → Type 0
  IsNext s (Some at) = ((t : Timer) × IsPending s t × (t.at ≡ at)) × ((u : Timer) → IsPending s u → at ≤ u.at)
  IsNext s None = (u : Timer) → body_of s u ≡ None
