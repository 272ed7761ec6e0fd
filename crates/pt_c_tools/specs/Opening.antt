-- What opening timers leaves in the handle.
use Rattle.std.specs.Prelude.{◌≡◌, ◌⊎◌, ℕ}
use Rattle.pt_timers.specs.State.{TimersState}
use Rattle.pt_timers.specs.Calls.{IsNone}
use Rattle.pt_c_values.specs.Places.{HandlePlace, full}
use Rattle.pt_c_values.specs.Filling.{IfEmpty}

-- the handle has no timers yet, and gets some of which none is pending; or there was no memory, or it had some already,
-- and it is as it was: 10 is the code of that
abbrev pub OpensTimers : ℕ → HandlePlace (TimersState ℕ) → HandlePlace (TimersState ℕ) → Type 0
OpensTimers code before after =
    IfEmpty before
    (((code ≡ 0) × (s : TimersState ℕ) × IsNone s × (after ≡ full s)) ⊎ ((code ≡ 2) × (after ≡ before)))
    ((code ≡ 10) × (after ≡ before))
