-- What the calls of timers answer C.
use Rattle.std.specs.Prelude.{◌≡◌, ℕ, Bool, cond, Option, Some, None, Result, Ok, Err}
use Rattle.pt_timers.specs.declared.Timer.{Timer}
use Rattle.pt_timers.specs.declared.Fired.{Fired}
use Rattle.pt_timers.specs.declared.StartError.{StartError}
use Rattle.pt_timers.specs.declared.StartError.TheVariants.{Worn, Memory}
use Rattle.pt_timers.specs.State.{TimersState}
use Rattle.pt_timers.specs.Calls.{Starts, Cancels, Fires, IsFirstDue, IsNext, NoneDue}
use Rattle.pt_c_values.specs.Places.{ShowsCode, nothing_there}
use Rattle.pt_c_tools.specs.declared.types.PtTimer.{PtTimer}
use Rattle.pt_c_tools.specs.declared.types.PtFired.{PtFired}

abbrev pub timer_in : PtTimer → Timer
timer_in t = record { at = t.at; number = t.number }

abbrev pub timer_out : Timer → PtTimer
timer_out t = record { at = t.at; number = t.number }

abbrev pub fired_out : Fired ℕ → PtFired
fired_out f = record { timer = timer_out f.timer; body = f.body }

abbrev pub start_code : Result Timer (StartError ℕ) → ℕ
start_code (Ok t) = 0
start_code (Err (Memory back)) = 2
start_code (Err (Worn back)) = 3

abbrev pub timer_or : PtTimer → Result Timer (StartError ℕ) → PtTimer
timer_or before (Ok t) = timer_out t
timer_or before (Err e) = before

abbrev pub StartsTimer : ℕ → ℕ → ℕ → PtTimer → PtTimer → TimersState ℕ → TimersState ℕ → Type 0
StartsTimer at body code before after old new =
    (r : Result Timer (StartError ℕ)) × (code ≡ start_code r) × (after ≡ timer_or before r) × Starts at body old r new

-- whether it was pending
abbrev pub CancelsTimer : Timer → ℕ → TimersState ℕ → TimersState ℕ → Type 0
CancelsTimer t code old new = (was : Bool) × (code ≡ cond was 0 nothing_there) × Cancels t old was new

abbrev pub FiresTimer : ℕ → ℕ → PtFired → PtFired → TimersState ℕ → TimersState ℕ → Type 0
FiresTimer now code before after old new =
    (f : Option (Fired ℕ)) × ShowsCode code before after fired_out f × Fires now old f new

-- the first timer that is due, or that none is
abbrev pub IsDue : ℕ → Option (Fired ℕ) → TimersState ℕ → Type 0
IsDue now (Some f) s = IsFirstDue now f.timer f.body s
IsDue now None s = NoneDue now s

abbrev pub ShowsDue : ℕ → ℕ → PtFired → PtFired → TimersState ℕ → Type 0
ShowsDue now code before after s = (f : Option (Fired ℕ)) × ShowsCode code before after fired_out f × IsDue now f s

abbrev pub ShowsNextTimer : ℕ → ℕ → ℕ → TimersState ℕ → Type 0
ShowsNextTimer code before after s = (at : Option ℕ) × ShowsCode code before after (λ n. n) at × IsNext s at
