-- A node is turned until nothing waits in it.
use Rattle.std.specs.Prelude.{◌≡◌, ℕ, zero, suc, ◌+◌, ◌-◌, ◌^◌, ◌<◌, List, [], length, map, sum_by, min, Option, Some, None, slice_index_or}
use Rattle.pt_shard.specs.declared.stop.Stop.{Stop}
use Rattle.pt_desk.specs.DeskState.{DeskState, GoesOn, posted_to, waits_for, collected_from}
use Rattle.pt_desk.specs.declared.turned.Turned.{Turned}
use Rattle.pt_desk.specs.Turns.{Turns}
use Rattle.pt_workers.specs.Desks.{desk_kept, OnDesk}
use Rattle.pt_workers.specs.declared.stillness.Rested.{Rested}
use Rattle.pt_workers.specs.declared.stillness.Stopped.{Stopped}

-- nothing is on its way from desk d to desk e: no letter waits in the outbox, and each that was posted was collected
pub record NoneGoes (desks : List DeskState) (d e : ℕ) : Type 0 where
  pub outbox : (x : DeskState) → waits_for (slice_index_or desks d x) e ≡ []
  pub lane : (x : DeskState) → posted_to (slice_index_or desks d x) e ≡ collected_from (slice_index_or desks e x) d

-- no letter waits in an outbox, a lane or a hold
pub record AreStill (desks : List DeskState) : Type 0 where
  pub holds : (d : ℕ) (x : DeskState) → d < length desks → (slice_index_or desks d x).shard.hold ≡ None
  pub ways : (d e : ℕ) → d < length desks → e < length desks → NoneGoes desks d e

-- what every round keeps
pub record AllDesksGoOn (old new : List DeskState) : Type 0 where
  pub count : length new ≡ length old
  pub each : (d : ℕ) (x : DeskState) → d < length old → GoesOn (slice_index_or old d x) (slice_index_or new d x)

-- how many events the desks have together
abbrev pub count_events : List DeskState → ℕ
count_events desks = sum_by (λ (d : DeskState). length d.shard.journal) desks

-- the stop of a turn, with its desk
abbrev pub stop_at : ℕ → Option Stop → Option Stopped
stop_at d None = None
stop_at d (Some cause) = Some (record { desk = d; cause = cause })

abbrev pub first_stopped : Option Stopped → Option Stopped → Option Stopped
first_stopped None next = next
first_stopped (Some first) next = Some first

-- what was done, with what was done after it
abbrev pub both_rested : Rested → Rested → Rested
both_rested before next = record {
  handled = min (before.handled + next.handled) (2 ^ 64 - 1);
  stopped = first_stopped before.stopped next.stopped;
}

-- a turn of each of the first n desks, from desk 0 upwards
abbrev pub TurnEach : ℕ → ℕ → List DeskState → Rested → List DeskState → Type 0
TurnEach budget zero old did new = (did ≡ record { handled = 0; stopped = None }) × (new ≡ old)
TurnEach budget (suc d) old did new =
    (mid : List DeskState) × (before : Rested) × (turned : Turned) × TurnEach budget d old before mid
    × OnDesk d (λ x y. Turns budget x turned y) mid new
    × (did ≡ both_rested before (record { handled = turned.handled; stopped = stop_at d turned.stopped }))

-- so many rounds, each of a look at the lanes, which changes only what the ends know of each other, and a turn of each
-- desk; a turn was stopped in the last at most
abbrev pub Rounds : ℕ → ℕ → List DeskState → Rested → List DeskState → Type 0
Rounds budget zero old did new = (did ≡ record { handled = 0; stopped = None }) × (new ≡ old)
Rounds budget (suc n) old did new =
    (mid met : List DeskState) × (before round : Rested) × Rounds budget n old before mid × (before.stopped ≡ None)
    × (map desk_kept met ≡ map desk_kept mid) × TurnEach budget (length met) met round new
    × (did ≡ both_rested before round)

-- where a turn was stopped the lanes are looked at once more
abbrev pub LooksAgain : Option Stopped → List DeskState → List DeskState → Type 0
LooksAgain None old new = new ≡ old
LooksAgain (Some stop) old new = map desk_kept new ≡ map desk_kept old

-- so many rounds, and what may come behind them
pub record RunsRounds (budget : ℕ) (old : List DeskState) (did : Rested) (new : List DeskState) : Type 0 where
  pub count : ℕ
  pub last : List DeskState
  pub rounds : Rounds budget count old did last
  pub looks : LooksAgain did.stopped last new

-- the desk is as it was left by a turn that was stopped for this cause, but for what its ends know of the other end of
-- each lane
pub record StoppedAt (budget : ℕ) (stop : Stopped) (desks : List DeskState) : Type 0 where
  pub within : stop.desk < length desks
  pub before : DeskState
  pub turned : Turned
  pub left : DeskState
  pub turns : Turns budget before turned left
  pub stopped : turned.stopped ≡ Some stop.cause
  pub kept : (x : DeskState) → desk_kept (slice_index_or desks stop.desk x) ≡ desk_kept left
