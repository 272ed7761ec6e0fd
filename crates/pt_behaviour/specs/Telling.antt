-- The calls of a behaviour.
use Rattle.std.specs.Prelude.{◌≡◌, Bool, true, false, is_some, Some, Result, Ok, Err}
use Rattle.pt_signal.specs.declared.pid.Pid.{Pid}
use Rattle.pt_signal.specs.declared.ids.Ref.{Ref}
use Rattle.pt_signal.specs.declared.item.Body.{Body}
use Rattle.pt_signal.specs.declared.signal.Signal.{Signal}
use Rattle.pt_events.specs.declared.event.Event.TheVariants.{Said}
use Rattle.pt_shard.specs.declared.fault.Fault.{Fault}
use Rattle.pt_shard.specs.Known.{knows}
use Rattle.pt_shard.specs.ShardState.{lives}
use Rattle.pt_shard.specs.Calls.{Calls, Monitors, demonitor_event}
use Rattle.pt_desk.specs.DeskState.{DeskState}
use Rattle.pt_desk.specs.Reaching.{Reaches, has_monitor_to_make}
use Rattle.pt_behaviour.specs.declared.call_fault.CallFault.{CallFault}
use Rattle.pt_behaviour.specs.declared.call_fault.CallFault.TheVariants.{Unknown, Refused}

-- the answer of the desk, as the behaviour is given it
abbrev pub call_answered : {A : Type 0} → Result A Fault → Result A CallFault
call_answered (Ok a) = Ok a
call_answered (Err f) = Err (Refused f)

-- the call is made where the desk knows its target, and answered as the desk does; else it is refused, and nothing has
-- changed
abbrev pub IfKnown : {A : Type 0} → Bool → (Result A Fault → Type 0) → DeskState → Result A CallFault → DeskState → Type 0
IfKnown {A} true Does old result new = (answer : Result A Fault) × Does answer × (result ≡ call_answered answer)
IfKnown false Does old result new = (result ≡ Err Unknown) × (new ≡ old)

-- a message, a monitor, and a monitor that is given up
abbrev pub SendsTo : Pid → Pid → Body → DeskState → Result (Unit {0}) CallFault → DeskState → Type 0
SendsTo me to body old result new =
    IfKnown (knows old.shard to)
    (λ r. Reaches (lives old.shard me) me to
    (Calls me (Some (Said me to (Signal.Message body))) (tt {0}) old.shard r new.shard) old r new) old result new

abbrev pub Watches : Pid → Pid → DeskState → Result Ref CallFault → DeskState → Type 0
Watches me to old result new =
    IfKnown (knows old.shard to)
    (λ r. Reaches (has_monitor_to_make old.shard me to) me to (Monitors me to old.shard r new.shard) old r new) old
    result new

abbrev pub Unwatches : Pid → Ref → DeskState → Result Bool Fault → DeskState → Type 0
Unwatches me m old result new =
    Calls me (demonitor_event old.shard me m false) (is_some (demonitor_event old.shard me m false)) old.shard result
    new.shard
