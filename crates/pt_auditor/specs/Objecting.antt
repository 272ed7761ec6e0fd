-- What an event that may not come contradicts.
use Rattle.std.specs.Prelude.{Option, Some, None}
use Rattle.std.specs.List.{find}
use Rattle.std.specs.Option.{option_map}
use Rattle.pt_signal.specs.declared.pid.Pid.{Pid}
use Rattle.pt_signal.specs.Values.{fits}
use Rattle.pt_events.specs.declared.event.Event.{Event}
use Rattle.pt_events.specs.declared.event.Event.TheVariants.{Born, Said, Came, Took, Flag, Left, Refused}
use Rattle.pt_events.specs.History.{reason_of, state_of, is_between}
use Rattle.pt_judge.specs.declared.cause.Cause.{Cause}
use Rattle.pt_judge.specs.declared.cause.Cause.TheVariants.{NotAlive, NotFront, NotFirstMatch}
use Rattle.pt_judge.specs.Judging.{Known}
use Rattle.pt_auditor.specs.declared.objection.Contradiction.{Contradiction}
use Rattle.pt_auditor.specs.declared.objection.Contradiction.TheVariants.{Oldest, First, Dead, Nothing}

-- who has to be alive for the event, if anyone
abbrev pub actor_of_event : Event → Option Pid
actor_of_event (Born p parent link) = parent
actor_of_event (Said a b x) = Some a
actor_of_event (Came a b x) = None
actor_of_event (Took p k i) = Some p
actor_of_event (Flag p on) = Some p
actor_of_event (Left p r) = Some p
actor_of_event (Refused a b) = Some a

abbrev pub dead : Known → Option Pid → Contradiction
dead k None = Nothing
dead k (Some p) = Dead p (reason_of (k.is p))

-- a receipt: the oldest signal on its way between the two; a take: the first item that fits; of one who is not alive
-- its end
abbrev pub contradiction : Known → Event → Cause → Contradiction
contradiction k (Came a b x) NotFront = Oldest (option_map (λ l. l.signal) (find (is_between a b) k.flights))
contradiction k (Took p j i) NotFirstMatch = First (find (fits j) (state_of (k.is p)).waiting)
contradiction k e NotAlive = dead k (actor_of_event e)
contradiction k e c = Nothing
