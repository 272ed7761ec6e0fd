-- The messages that a process sends later, and how they are sent.
use Rattle.std.specs.Prelude.{◌≡◌, ℕ, Bool, true, false, List, [], ◌∷◌, Result, Ok, Err}
use Rattle.pt_signal.specs.declared.pid.Pid.{Pid}
use Rattle.pt_timers.specs.declared.Timer.{Timer}
use Rattle.pt_timers.specs.State.{TimersState}
use Rattle.pt_timers.specs.Calls.{Cancels, IsFirstDue, NoneDue}
use Rattle.pt_shard.specs.declared.fault.Fault.{Fault}
use Rattle.pt_shard.specs.declared.fault.Fault.TheVariants.{NoProc}
use Rattle.pt_desk.specs.DeskState.{DeskState}
use Rattle.pt_behaviour.specs.declared.call_fault.CallFault.{CallFault}
use Rattle.pt_behaviour.specs.declared.call_fault.CallFault.TheVariants.{Unknown, Refused}
use Rattle.pt_names.specs.declared.alarms.Alarm.{Alarm}
use Rattle.pt_behaviour.specs.Telling.{SendsTo}

-- those that are still to be sent, each under its timer
abbrev pub AlarmsState : Type 0
AlarmsState = TimersState Alarm

-- what came of sending a message that is due: it is done with where it went out, and where its receiver is not known or
-- is seen to have ended; else it is kept, for this fault
abbrev pub rung_by : Result (Unit {0}) CallFault → Result (Unit {0}) Fault
rung_by (Ok done) = Ok tt
rung_by (Err Unknown) = Ok tt
rung_by (Err (Refused NoProc)) = Ok tt
rung_by (Err (Refused f)) = Err f

-- the message was sent, and this came of it
abbrev pub TellsAlarm : Pid → Alarm → DeskState → Result (Unit {0}) Fault → DeskState → Type 0
TellsAlarm me alarm d result e =
    (told : Result (Unit {0}) CallFault) × SendsTo me alarm.to alarm.body d told e × (result ≡ rung_by told)

-- a message that was due first, under its timer
pub record Rung : Type 0 where
  pub timer : Timer
  pub alarm : Alarm

-- it is the first of those that are due; it was sent or dropped, and is not to be sent any more
pub record RingsOne (me : Pid) (now : ℕ) (r : Rung) (old : AlarmsState) (d : DeskState) (new : AlarmsState)
    (e : DeskState) : Type 0 where
  pub first : IsFirstDue now r.timer r.alarm old
  pub tells : TellsAlarm me r.alarm d (Ok tt) e
  pub cancels : Cancels r.timer old true new

-- the first of those that are due could not be sent for this fault, and all stay to be sent
pub record KeepsOne (me : Pid) (now : ℕ) (old : AlarmsState) (d : DeskState) (f : Fault) (new : AlarmsState)
    (e : DeskState) : Type 0 where
  pub rung : Rung
  pub first : IsFirstDue now rung.timer rung.alarm old
  pub tells : TellsAlarm me rung.alarm d (Err f) e
  pub same : new ≡ old

-- none is due, and nothing has changed
abbrev pub RingsNone : ℕ → AlarmsState → DeskState → AlarmsState → DeskState → Type 0
RingsNone now old d new e = NoneDue now old × (new ≡ old) × (e ≡ d)

abbrev pub RingsFirst : Pid → ℕ → AlarmsState → DeskState → Result Bool Fault → AlarmsState → DeskState → Type 0
RingsFirst me now old d (Ok true) new e = (r : Rung) × RingsOne me now r old d new e
RingsFirst me now old d (Ok false) new e = RingsNone now old d new e
RingsFirst me now old d (Err f) new e = KeepsOne me now old d f new e

-- these were due one after the other, the newest in front: so each is the first of those that were left
abbrev pub RingsAll : Pid → ℕ → List Rung → AlarmsState → DeskState → AlarmsState → DeskState → Type 0
RingsAll me now [] old d new e = (new ≡ old) × (e ≡ d)
RingsAll me now (r ∷ rung) old d new e =
    (mid : AlarmsState) × (between : DeskState) × RingsAll me now rung old d mid between
    × RingsOne me now r mid between new e

-- it ends where none is due any more, or where one could not be sent
abbrev pub RingsTo : Pid → ℕ → AlarmsState → DeskState → Result (Unit {0}) Fault → AlarmsState → DeskState → Type 0
RingsTo me now old d (Ok done) new e = RingsNone now old d new e
RingsTo me now old d (Err f) new e = KeepsOne me now old d f new e

pub record Rings (me : Pid) (now : ℕ) (old : AlarmsState) (d : DeskState) (result : Result (Unit {0}) Fault)
    (new : AlarmsState) (e : DeskState) : Type 0 where
  -- the messages that are done with, the last in front
  pub rung : List Rung
  pub left : AlarmsState
  pub last : DeskState
  pub rings : RingsAll me now rung old d left last
  pub ends : RingsTo me now left last result new e
