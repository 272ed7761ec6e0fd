-- Events and letters left over as JSON, an object each, as lists of characters. Ids are the texts that they print.
use Rattle.std.specs.Prelude.{ℕ, List, ◌++◌, codes, decimal, Option, Some, None}
use Rattle.std.specs.Fmt.{signed_decimal}
use Rattle.pt_signal.specs.declared.pid.Pid.{Pid}
use Rattle.pt_signal.specs.declared.ids.LinkId.{LinkId}
use Rattle.pt_signal.specs.declared.ids.Ids.{Ids}
use Rattle.pt_signal.specs.declared.item.Body.{Body}
use Rattle.pt_signal.specs.declared.item.Pick.{Pick}
use Rattle.pt_signal.specs.declared.item.Item.{Item}
use Rattle.pt_signal.specs.declared.item.Item.TheVariants.{User}
use Rattle.pt_signal.specs.declared.signal.Signal.{Signal}
use Rattle.pt_signal.specs.declared.signal.Signal.TheVariants.{Message, Link, Unlink, LinkExit, Monitor, Demonitor}
use Rattle.pt_signal.specs.declared.signal.Signal.TheVariants.{AliveAsk, AliveSay}
use Rattle.pt_signal.specs.declared.letter.Letter.{Letter}
use Rattle.pt_signal.specs.Text.{pid_text, ref_text, link_id_text, reason_text, true_or_false_text}
use Rattle.pt_events.specs.declared.event.Event.{Event}
use Rattle.pt_events.specs.declared.event.Event.TheVariants.{Born, Said, Came, Took, Flag, Left, Refused}
use Rattle.pt_events.specs.declared.event.Stamped.{Stamped}

-- members, with commas between them -----------------------------------------------------------

abbrev pub who_member : Option Pid → List ℕ
who_member None = codes ""
who_member (Some p) = codes ",\"who\":\"" ++ pid_text p ++ codes "\""

unfoldable pub body_members : Body → List ℕ
body_members b = codes "\"kind\":" ++ decimal b.kind ++ codes ",\"num\":" ++ signed_decimal b.num ++ who_member b.who

abbrev pub second_link : Option LinkId → List ℕ
second_link None = codes "\"]"
second_link (Some i) = codes "\",\"" ++ link_id_text i ++ codes "\"]"

unfoldable pub links_member : Ids → List ℕ
links_member ids = codes "\"links\":[\"" ++ link_id_text ids.one ++ second_link ids.two

-- of a monitor, or of the question whether a process is alive; of no other signal
unfoldable pub asking_members : Signal → List ℕ
asking_members (Monitor m) = codes "\"signal\":\"monitor\",\"ref\":\"" ++ ref_text m ++ codes "\""
asking_members (Demonitor m) = codes "\"signal\":\"demonitor\",\"ref\":\"" ++ ref_text m ++ codes "\""
asking_members (Signal.Down m r) =
    codes "\"signal\":\"down\",\"ref\":\"" ++ ref_text m ++ codes "\",\"reason\":\"" ++ reason_text r ++ codes "\""
asking_members (AliveAsk m) = codes "\"signal\":\"alive-ask\",\"ref\":\"" ++ ref_text m ++ codes "\""
asking_members (AliveSay m x) =
    codes "\"signal\":\"alive-say\",\"ref\":\"" ++ ref_text m ++ codes "\",\"alive\":" ++ true_or_false_text x
asking_members _ = codes ""

unfoldable pub signal_members : Signal → List ℕ
signal_members (Message body) = codes "\"signal\":\"message\"," ++ body_members body
signal_members (Link i) = codes "\"signal\":\"link\",\"link\":\"" ++ link_id_text i ++ codes "\""
signal_members (Unlink ids) = codes "\"signal\":\"unlink\"," ++ links_member ids
signal_members (Signal.Exit r) = codes "\"signal\":\"exit\",\"reason\":\"" ++ reason_text r ++ codes "\""
signal_members (LinkExit ids r) =
    codes "\"signal\":\"link-exit\"," ++ links_member ids ++ codes ",\"reason\":\"" ++ reason_text r ++ codes "\""
signal_members x = asking_members x

unfoldable pub item_members : Item → List ℕ
item_members (User from body) =
    codes "\"item\":\"user\",\"from\":\"" ++ pid_text from ++ codes "\"," ++ body_members body
item_members (Item.Exit from r) =
    codes "\"item\":\"exit\",\"from\":\"" ++ pid_text from ++ codes "\",\"reason\":\"" ++ reason_text r ++ codes "\""
item_members (Item.Down m from r) =
    codes "\"item\":\"down\",\"ref\":\"" ++ ref_text m ++ codes "\",\"from\":\"" ++ pid_text from
    ++ codes "\",\"reason\":\"" ++ reason_text r ++ codes "\""
item_members (Item.Alive m from x) =
    codes "\"item\":\"alive\",\"ref\":\"" ++ ref_text m ++ codes "\",\"from\":\"" ++ pid_text from
    ++ codes "\",\"alive\":" ++ true_or_false_text x

unfoldable pub pick_json : Pick → List ℕ
pick_json Pick.Any = codes "\"pick\":\"any\""
pick_json (Pick.Kind k) = codes "\"pick\":\"kind\",\"of\":" ++ decimal k
pick_json (Pick.From p) = codes "\"pick\":\"from\",\"of\":\"" ++ pid_text p ++ codes "\""
pick_json (Pick.ExitOf p) = codes "\"pick\":\"exit-of\",\"of\":\"" ++ pid_text p ++ codes "\""
pick_json (Pick.DownOf m) = codes "\"pick\":\"down-of\",\"of\":\"" ++ ref_text m ++ codes "\""
pick_json (Pick.AliveOf m) = codes "\"pick\":\"alive-of\",\"of\":\"" ++ ref_text m ++ codes "\""

abbrev pub parent_member : Option Pid → List ℕ
parent_member None = codes ""
parent_member (Some p) = codes ",\"by\":\"" ++ pid_text p ++ codes "\""

abbrev pub birth_link_member : Option LinkId → List ℕ
birth_link_member None = codes ""
birth_link_member (Some i) = codes ",\"link\":\"" ++ link_id_text i ++ codes "\""

abbrev pub route_members : Pid → Pid → List ℕ
route_members from to = codes "\"from\":\"" ++ pid_text from ++ codes "\",\"to\":\"" ++ pid_text to ++ codes "\""

-- of an event that has no signal and no item; of no other event
unfoldable pub plain_members : Event → List ℕ
plain_members (Born p parent link) =
    codes "\"event\":\"born\",\"pid\":\"" ++ pid_text p ++ codes "\"" ++ parent_member parent ++ birth_link_member link
plain_members (Flag p on) = codes "\"event\":\"flag\",\"pid\":\"" ++ pid_text p ++ codes "\",\"on\":" ++ true_or_false_text on
plain_members (Left p r) =
    codes "\"event\":\"left\",\"pid\":\"" ++ pid_text p ++ codes "\",\"reason\":\"" ++ reason_text r ++ codes "\""
plain_members (Refused a b) = codes "\"event\":\"refused\"," ++ route_members a b
plain_members _ = codes ""

unfoldable pub event_members : Event → List ℕ
event_members (Said a b x) = codes "\"event\":\"said\"," ++ route_members a b ++ codes "," ++ signal_members x
event_members (Came a b x) = codes "\"event\":\"came\"," ++ route_members a b ++ codes "," ++ signal_members x
event_members (Took p k i) =
    codes "\"event\":\"took\",\"pid\":\"" ++ pid_text p ++ codes "\"," ++ pick_json k ++ codes "," ++ item_members i
event_members e = plain_members e

unfoldable pub letter_members : Letter → List ℕ
letter_members l = route_members l.from l.to ++ codes "," ++ signal_members l.signal

-- objects -------------------------------------------------------------------------------------

unfoldable pub json_text : Stamped → List ℕ
json_text s =
    codes "{\"stamp\":" ++ decimal s.stamp ++ codes ",\"desk\":" ++ decimal s.desk ++ codes "," ++ event_members s.event
    ++ codes "}"

unfoldable pub left_over_members : ℕ → Letter → List ℕ
left_over_members to_desk l =
    codes "\"event\":\"left-over\",\"to_desk\":" ++ decimal to_desk ++ codes "," ++ letter_members l

-- a letter from one desk to another that did not come, with the stamp of its sending
unfoldable pub json_left_over_text : ℕ → ℕ → Letter → List ℕ
json_left_over_text from_desk to_desk l =
    codes "{\"stamp\":" ++ decimal l.stamp ++ codes ",\"desk\":" ++ decimal from_desk ++ codes ","
    ++ left_over_members to_desk l ++ codes "}"
