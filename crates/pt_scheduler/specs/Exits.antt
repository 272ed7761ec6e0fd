-- The reason of an exit: by the journal of a desk, by what a loss told, or by the history of a node.
use Rattle.std.specs.Prelude.{◌≡◌, cond, Bool, true, List, [], ◌∷◌, Option, Some, None}
use Rattle.pt_signal.specs.declared.pid.Pid.{Pid}
use Rattle.pt_signal.specs.declared.reason.Reason.{Reason}
use Rattle.pt_signal.specs.declared.reason.Reason.TheVariants.{Noproc}
use Rattle.pt_signal.specs.Values.{same_pid}
use Rattle.pt_events.specs.declared.event.Event.{Event}
use Rattle.pt_events.specs.declared.event.Event.TheVariants.{Left}
use Rattle.pt_events.specs.declared.event.Stamped.{Stamped}
use Rattle.pt_behaviour.specs.declared.behaviour.Next.{Next}
use Rattle.pt_behaviour.specs.declared.behaviour.Next.TheVariants.{Stop}

-- the reason that was noted of an exit: by the journal, or else by a loss
abbrev pub noted_reason : Option Reason → Option Reason → Reason
noted_reason (Some r) lost = r
noted_reason None (Some r) = r
noted_reason None None = Noproc

-- of a process that left, and was alive or not as it was come to
abbrev pub reason_told : Bool → Next → Reason → Reason
reason_told true (Stop r) noted = r
reason_told alive next noted = noted

-- the reason with which a process left by the journal, whose newest event is in front
abbrev pub exit_by : Pid → Event → Option Reason → Option Reason
exit_by p (Left q r) before = cond (same_pid q p) (Some r) before
exit_by p e before = before

abbrev pub exit_in : Pid → List Stamped → Option Reason
exit_in p [] = None
exit_in p (s ∷ journal) = exit_by p s.event (exit_in p journal)

-- of one that left without such an event, as one that a signal ended, it is the one that a loss told, or Noproc
abbrev pub exit_reason : Pid → List Stamped → Option Reason → Reason
exit_reason p journal lost = noted_reason (exit_in p journal) lost

-- the reason of an exit that a history has, or else the one that was known before
abbrev pub reason_kept : Option Reason → Option Reason → Option Reason
reason_kept (Some r) lost = Some r
reason_kept None lost = lost

-- each exit that the journal has is in the history, too
abbrev pub HasExitsOf : List Stamped → List Stamped → Type 0
HasExitsOf journal past = (p : Pid) → exit_in p past ≡ None → exit_in p journal ≡ None
