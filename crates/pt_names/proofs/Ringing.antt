-- Messages that are due are sent one after the other.
use Rattle.std.proofs.Common.{◌≡◌, ℕ, Bool, true, false, List, ◌∷◌, Some, None, Ok}
use Rattle.pt_signal.specs.declared.pid.Pid.{Pid}
use Rattle.pt_timers.specs.declared.Timer.{Timer}
use Rattle.pt_timers.specs.State.{body_of}
use Rattle.pt_timers.specs.Calls.{Cancels}
use Rattle.pt_desk.specs.DeskState.{DeskState}
use Rattle.pt_names.specs.declared.alarms.Alarm.{Alarm}
use Rattle.pt_names.specs.Alarming.{AlarmsState, Rung, RingsAll, RingsFirst}

-- one that is pending is cancelled
pub was_cancelled : (t : Timer) (body : Alarm) (old new : AlarmsState) (b : Bool) → body_of old t ≡ Some body → Cancels t old b new → Cancels t old true new
was_cancelled t body old new true is h = h
was_cancelled t body old new false is h = let none : body_of old t ≡ None = h.0 in absurd (cc)

abbrev pub Rang : Pid → ℕ → AlarmsState → DeskState → AlarmsState → DeskState → Type 0
Rang me now old d new e = (rung : List Rung) × RingsAll me now rung old d new e

pub rings_next : (me : Pid) (now : ℕ) (old : AlarmsState) (d : DeskState) (mid : AlarmsState) (between : DeskState) (new : AlarmsState) (e : DeskState)
    → Rang me now old d mid between → RingsFirst me now mid between (Ok true) new e → Rang me now old d new e
rings_next me now old d mid between new e rang h = (h.0 ∷ rang.0, (mid, between, rang.1, h.1))
