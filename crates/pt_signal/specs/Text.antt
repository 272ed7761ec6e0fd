-- The printed texts, as lists of characters.
use Rattle.std.specs.Prelude.{ℕ, Bool, true, false, List, ◌++◌, codes, decimal, Option, Some, None}
use Rattle.std.specs.Fmt.{signed_decimal}
use Rattle.pt_signal.specs.declared.pid.Pid.{Pid}
use Rattle.pt_signal.specs.declared.ids.Ref.{Ref}
use Rattle.pt_signal.specs.declared.ids.LinkId.{LinkId}
use Rattle.pt_signal.specs.declared.ids.Ids.{Ids}
use Rattle.pt_signal.specs.declared.item.Body.{Body}
use Rattle.pt_signal.specs.declared.reason.Reason.{Reason}
use Rattle.pt_signal.specs.declared.reason.Reason.TheVariants.{Normal, Kill, Killed, Noproc, Shutdown, Other}
use Rattle.pt_signal.specs.declared.item.Pick.{Pick}
use Rattle.pt_signal.specs.declared.item.Item.{Item}
use Rattle.pt_signal.specs.declared.item.Item.TheVariants.{User}
use Rattle.pt_signal.specs.declared.signal.Signal.{Signal}
use Rattle.pt_signal.specs.declared.signal.Signal.TheVariants.{Message, Link, Unlink, LinkExit, Monitor, Demonitor}
use Rattle.pt_signal.specs.declared.signal.Signal.TheVariants.{AliveAsk, AliveSay}
use Rattle.pt_signal.specs.declared.letter.Letter.{Letter}
use Rattle.pt_signal.specs.declared.letter.LeftOver.{LeftOver}

-- `<shard.slot.version>`
unfoldable pub pid_text : Pid → List ℕ
pid_text p = codes "<" ++ decimal p.shard ++ codes "." ++ decimal p.slot ++ codes "." ++ decimal p.version ++ codes ">"

-- `#desk.number`
unfoldable pub ref_text : Ref → List ℕ
ref_text m = codes "#" ++ decimal m.desk ++ codes "." ++ decimal m.number

-- `~desk.number`
unfoldable pub link_id_text : LinkId → List ℕ
link_id_text i = codes "~" ++ decimal i.desk ++ codes "." ++ decimal i.number

abbrev pub second_text : Option LinkId → List ℕ
second_text None = codes ""
second_text (Some i) = codes "+" ++ link_id_text i

-- the one id, or both with a plus between them
unfoldable pub ids_text : Ids → List ℕ
ids_text ids = link_id_text ids.one ++ second_text ids.two

abbrev pub who_text : Option Pid → List ℕ
who_text None = codes ""
who_text (Some p) = codes " who " ++ pid_text p

-- `KIND NUM`, and ` who PID` where there is one
unfoldable pub body_text : Body → List ℕ
body_text b = decimal b.kind ++ codes " " ++ signed_decimal b.num ++ who_text b.who

unfoldable pub reason_text : Reason → List ℕ
reason_text Normal = codes "normal"
reason_text Kill = codes "kill"
reason_text Killed = codes "killed"
reason_text Noproc = codes "noproc"
reason_text Shutdown = codes "shutdown"
reason_text (Other number) = codes "other:" ++ decimal number

-- what became of a process: `alive`, or `ended REASON`
unfoldable pub fate_text : Option Reason → List ℕ
fate_text None = codes "alive"
fate_text (Some r) = codes "ended " ++ reason_text r

abbrev pub true_or_false_text : Bool → List ℕ
true_or_false_text true = codes "true"
true_or_false_text false = codes "false"

-- whether a process is alive
unfoldable pub yes_or_no_text : Bool → List ℕ
yes_or_no_text true = codes "yes"
yes_or_no_text false = codes "no"

unfoldable pub item_text : Item → List ℕ
item_text (User from body) = codes "user " ++ pid_text from ++ codes " " ++ body_text body
item_text (Item.Exit from r) = codes "exit " ++ pid_text from ++ codes " " ++ reason_text r
item_text (Item.Down m from r) = codes "down " ++ ref_text m ++ codes " " ++ pid_text from ++ codes " " ++ reason_text r
item_text (Item.Alive m from x) =
    codes "alive " ++ ref_text m ++ codes " " ++ pid_text from ++ codes " " ++ yes_or_no_text x

unfoldable pub pick_text : Pick → List ℕ
pick_text Pick.Any = codes "any"
pick_text (Pick.Kind k) = codes "kind " ++ decimal k
pick_text (Pick.From p) = codes "from " ++ pid_text p
pick_text (Pick.ExitOf p) = codes "exit-of " ++ pid_text p
pick_text (Pick.DownOf m) = codes "down-of " ++ ref_text m
pick_text (Pick.AliveOf m) = codes "alive-of " ++ ref_text m

unfoldable pub signal_text : Signal → List ℕ
signal_text (Message body) = codes "message " ++ body_text body
signal_text (Link i) = codes "link " ++ link_id_text i
signal_text (Unlink ids) = codes "unlink " ++ ids_text ids
signal_text (Signal.Exit r) = codes "exit " ++ reason_text r
signal_text (LinkExit ids r) = codes "link-exit " ++ ids_text ids ++ codes " " ++ reason_text r
signal_text (Monitor m) = codes "monitor " ++ ref_text m
signal_text (Demonitor m) = codes "demonitor " ++ ref_text m
signal_text (Signal.Down m r) = codes "down " ++ ref_text m ++ codes " " ++ reason_text r
signal_text (AliveAsk m) = codes "alive-ask " ++ ref_text m
signal_text (AliveSay m x) = codes "alive-say " ++ ref_text m ++ codes " " ++ yes_or_no_text x

-- `PID -> PID`
unfoldable pub route_text : Pid → Pid → List ℕ
route_text from to = pid_text from ++ codes " -> " ++ pid_text to

-- `PID -> PID SIGNAL @STAMP`
unfoldable pub letter_text : Letter → List ℕ
letter_text l = route_text l.from l.to ++ codes " " ++ signal_text l.signal ++ codes " @" ++ decimal l.stamp

-- `left-over DESK -> DESK LETTER`
unfoldable pub left_over_text : LeftOver → List ℕ
left_over_text l =
    codes "left-over " ++ decimal l.from_desk ++ codes " -> " ++ decimal l.to_desk ++ codes " " ++ letter_text l.letter
