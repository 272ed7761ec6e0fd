-- Events and letters left over as lines of a sequence diagram of Mermaid, as lists of characters. The text of a line is
-- that of the history, but that `<`, `>` and `#` are written by their names, as Mermaid has them.
use Rattle.std.specs.Prelude.{ℕ, Bool, true, false, List, ◌++◌, codes, decimal, Option, Some, None}
use Rattle.std.specs.Fmt.{signed_decimal}
use Rattle.pt_signal.specs.declared.pid.Pid.{Pid}
use Rattle.pt_signal.specs.declared.ids.Ref.{Ref}
use Rattle.pt_signal.specs.declared.ids.LinkId.{LinkId}
use Rattle.pt_signal.specs.declared.item.Body.{Body}
use Rattle.pt_signal.specs.declared.item.Pick.{Pick}
use Rattle.pt_signal.specs.declared.item.Item.{Item}
use Rattle.pt_signal.specs.declared.item.Item.TheVariants.{User}
use Rattle.pt_signal.specs.declared.signal.Signal.{Signal}
use Rattle.pt_signal.specs.declared.signal.Signal.TheVariants.{Message, Link, Unlink, LinkExit, Monitor, Demonitor}
use Rattle.pt_signal.specs.declared.signal.Signal.TheVariants.{AliveAsk, AliveSay}
use Rattle.pt_signal.specs.declared.letter.Letter.{Letter}
use Rattle.pt_signal.specs.Text.{link_id_text, ids_text, reason_text, yes_or_no_text}
use Rattle.pt_events.specs.declared.event.Event.{Event}
use Rattle.pt_events.specs.declared.event.Event.TheVariants.{Born, Said, Came, Took, Flag, Left, Refused}
use Rattle.pt_events.specs.declared.event.Stamped.{Stamped}

-- the name of a process's column, `p0_1_1`
unfoldable pub column_name_text : Pid → List ℕ
column_name_text p = codes "p" ++ decimal p.shard ++ codes "_" ++ decimal p.slot ++ codes "_" ++ decimal p.version

-- values as they are shown ----------------------------------------------------------------------

unfoldable pub pid_label : Pid → List ℕ
pid_label p =
    codes "#lt;" ++ decimal p.shard ++ codes "." ++ decimal p.slot ++ codes "." ++ decimal p.version ++ codes "#gt;"

unfoldable pub ref_label : Ref → List ℕ
ref_label m = codes "#35;" ++ decimal m.desk ++ codes "." ++ decimal m.number

abbrev pub who_label : Option Pid → List ℕ
who_label None = codes ""
who_label (Some p) = codes " who " ++ pid_label p

unfoldable pub body_label : Body → List ℕ
body_label b = decimal b.kind ++ codes " " ++ signed_decimal b.num ++ who_label b.who

-- of a monitor, or of the question whether a process is alive; of no other signal
unfoldable pub asking_label : Signal → List ℕ
asking_label (Monitor m) = codes "monitor " ++ ref_label m
asking_label (Demonitor m) = codes "demonitor " ++ ref_label m
asking_label (Signal.Down m r) = codes "down " ++ ref_label m ++ codes " " ++ reason_text r
asking_label (AliveAsk m) = codes "alive-ask " ++ ref_label m
asking_label (AliveSay m x) = codes "alive-say " ++ ref_label m ++ codes " " ++ yes_or_no_text x
asking_label _ = codes ""

unfoldable pub signal_label : Signal → List ℕ
signal_label (Message body) = codes "message " ++ body_label body
signal_label (Link i) = codes "link " ++ link_id_text i
signal_label (Unlink ids) = codes "unlink " ++ ids_text ids
signal_label (Signal.Exit r) = codes "exit " ++ reason_text r
signal_label (LinkExit ids r) = codes "link-exit " ++ ids_text ids ++ codes " " ++ reason_text r
signal_label x = asking_label x

unfoldable pub item_label : Item → List ℕ
item_label (User from body) = codes "user " ++ pid_label from ++ codes " " ++ body_label body
item_label (Item.Exit from r) = codes "exit " ++ pid_label from ++ codes " " ++ reason_text r
item_label (Item.Down m from r) =
    codes "down " ++ ref_label m ++ codes " " ++ pid_label from ++ codes " " ++ reason_text r
item_label (Item.Alive m from x) =
    codes "alive " ++ ref_label m ++ codes " " ++ pid_label from ++ codes " " ++ yes_or_no_text x

unfoldable pub pick_label : Pick → List ℕ
pick_label Pick.Any = codes "any"
pick_label (Pick.Kind k) = codes "kind " ++ decimal k
pick_label (Pick.From p) = codes "from " ++ pid_label p
pick_label (Pick.ExitOf p) = codes "exit-of " ++ pid_label p
pick_label (Pick.DownOf m) = codes "down-of " ++ ref_label m
pick_label (Pick.AliveOf m) = codes "alive-of " ++ ref_label m

abbrev pub taking_label : Pick → Item → List ℕ
taking_label k i = pick_label k ++ codes " = " ++ item_label i

abbrev pub birth_link_label : Option LinkId → List ℕ
birth_link_label None = codes ""
birth_link_label (Some i) = codes " link " ++ link_id_text i

abbrev pub switch_label : Bool → List ℕ
switch_label true = codes "on"
switch_label false = codes "off"

-- lines -----------------------------------------------------------------------------------------

-- where a birth shows: as a note, or as an arrow from the process that made it
abbrev pub bearing_text : Pid → Option Pid → List ℕ
bearing_text p None = codes "Note over " ++ column_name_text p
bearing_text p (Some parent) = column_name_text parent ++ codes "->>" ++ column_name_text p

abbrev pub note_text : Pid → List ℕ
note_text p = codes "    Note over " ++ column_name_text p

-- what stands before the time of an event; a birth names the column of its process in a line of its own
unfoldable pub scene_text : Event → List ℕ
scene_text (Born p parent link) =
    codes "    participant " ++ column_name_text p ++ codes " as " ++ pid_label p ++ codes "\n    " ++ bearing_text p parent
scene_text (Said a b x) = codes "    " ++ column_name_text a ++ codes "--)" ++ column_name_text b
scene_text (Came a b x) = codes "    " ++ column_name_text a ++ codes "-)" ++ column_name_text b
scene_text (Took p k i) = note_text p
scene_text (Flag p on) = note_text p
scene_text (Left p r) = note_text p
scene_text (Refused a b) = codes "    " ++ column_name_text a ++ codes "--x" ++ column_name_text b

-- what stands behind it
unfoldable pub deed_text : Event → List ℕ
deed_text (Born p parent link) = codes "born" ++ birth_link_label link
deed_text (Said a b x) = signal_label x
deed_text (Came a b x) = signal_label x
deed_text (Took p k i) = codes "took " ++ taking_label k i
deed_text (Flag p on) = codes "flag " ++ switch_label on
deed_text (Left p r) = codes "left " ++ reason_text r
deed_text (Refused a b) = codes "refused"

unfoldable pub mermaid_text : Stamped → List ℕ
mermaid_text s =
    scene_text s.event ++ codes ": " ++ decimal s.stamp ++ codes "@" ++ decimal s.desk ++ codes " " ++ deed_text s.event

-- a letter that did not come, with the stamp of its sending
unfoldable pub mermaid_left_over_text : Letter → List ℕ
mermaid_left_over_text l =
    codes "    " ++ column_name_text l.from ++ codes "-x" ++ column_name_text l.to ++ codes ": left-over " ++ signal_label l.signal
    ++ codes " @" ++ decimal l.stamp
