-- Which events and which processes are printed.
use Rattle.std.specs.Prelude.{nat_le, Bool, true, ◌&&◌, ◌||◌, Option, Some, None}
use Rattle.pt_signal.specs.declared.pid.Pid.{Pid}
use Rattle.pt_signal.specs.Values.{same_pid}
use Rattle.pt_events.specs.declared.event.Event.{Event}
use Rattle.pt_events.specs.declared.event.Event.TheVariants.{Born, Said, Came, Took, Flag, Left, Refused}
use Rattle.pt_events.specs.declared.event.Stamped.{Stamped}
use Rattle.pt_events.specs.History.{is_the}
use Rattle.pt_auditor.specs.declared.selection.Selection.{Selection}

-- the event is of the process, or of another that does it with this one
abbrev pub concerns : Pid → Event → Bool
concerns p (Born q parent link) = same_pid p q || is_the p parent
concerns p (Said a b x) = same_pid p a || same_pid p b
concerns p (Came a b x) = same_pid p a || same_pid p b
concerns p (Took q k i) = same_pid p q
concerns p (Flag q on) = same_pid p q
concerns p (Left q r) = same_pid p q
concerns p (Refused a b) = same_pid p a || same_pid p b

abbrev pub is_asked : Option Pid → Pid → Bool
is_asked None q = true
is_asked (Some p) q = same_pid p q

abbrev pub is_asked_event : Option Pid → Event → Bool
is_asked_event None e = true
is_asked_event (Some p) e = concerns p e

abbrev pub selects : Selection → Stamped → Bool
selects s t = nat_le s.from t.stamp && nat_le t.stamp s.to && is_asked_event s.pid t.event
