-- The printed texts of events, as lists of characters.
use Rattle.std.specs.Prelude.{ℕ, Bool, true, false, List, ◌++◌, codes, decimal, Option, Some, None}
use Rattle.pt_signal.specs.declared.Pid.{Pid}
use Rattle.pt_signal.specs.declared.LinkId.{LinkId}
use Rattle.pt_signal.specs.Text.{pid_text, link_id_text, reason_text, item_text, pick_text, signal_text, route_text}
use Rattle.pt_events.specs.declared.event.Event.{Event}
use Rattle.pt_events.specs.declared.event.Event.TheVariants.{Born, Said, Came, Took, Flag, Left, Refused}
use Rattle.pt_events.specs.declared.event.Stamped.{Stamped}

unfoldable pub parent_text : Option Pid → List ℕ
parent_text None = codes ""
parent_text (Some p) = codes " by " ++ pid_text p

unfoldable pub link_text : Option LinkId → List ℕ
link_text None = codes ""
link_text (Some i) = codes " link " ++ link_id_text i

unfoldable pub switch_text : Bool → List ℕ
switch_text true = codes "on"
switch_text false = codes "off"

unfoldable pub event_text : Event → List ℕ
event_text (Born p parent link) = codes "born " ++ pid_text p ++ parent_text parent ++ link_text link
event_text (Said a b x) = codes "said " ++ route_text a b ++ codes " " ++ signal_text x
event_text (Came a b x) = codes "came " ++ route_text a b ++ codes " " ++ signal_text x
event_text (Took p k i) = codes "took " ++ pid_text p ++ codes " " ++ pick_text k ++ codes " = " ++ item_text i
event_text (Flag p on) = codes "flag " ++ pid_text p ++ codes " " ++ switch_text on
event_text (Left p r) = codes "left " ++ pid_text p ++ codes " " ++ reason_text r
event_text (Refused a b) = codes "refused " ++ route_text a b

-- `STAMP@DESK EVENT`
unfoldable pub stamped_text : Stamped → List ℕ
stamped_text s = decimal s.stamp ++ codes "@" ++ decimal s.desk ++ codes " " ++ event_text s.event
