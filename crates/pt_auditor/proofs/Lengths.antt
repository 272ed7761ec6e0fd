-- How long the texts of events and of letters are at most.
use Rattle.std.proofs.Common.{ℕ, ◌^◌, ◌<◌, ◌≤◌, Bool, true, false, Option, Some, None, length, length-append, arith}
use Rattle.std.specs.Fmt.{decimal}
use Rattle.std.proofs.lemmas.Fmt.{length-decimal-le, length_signed_le}
use Rattle.pt_signal.specs.declared.pid.Pid.{Pid}
use Rattle.pt_signal.specs.declared.ids.Ref.{Ref}
use Rattle.pt_signal.specs.declared.ids.LinkId.{LinkId}
use Rattle.pt_signal.specs.declared.ids.Ids.{Ids}
use Rattle.pt_signal.specs.declared.item.Body.{Body}
use Rattle.pt_signal.specs.declared.reason.Reason.{Reason}
use Rattle.pt_signal.specs.declared.reason.Reason.TheVariants.{Normal, Kill, Killed, Noproc, Shutdown, Other}
use Rattle.pt_signal.specs.declared.item.Pick.{Pick}
use Rattle.pt_signal.specs.declared.item.Item.{Item}
use Rattle.pt_signal.specs.declared.item.Item.TheVariants.{User}
use Rattle.pt_signal.specs.declared.signal.Signal.{Signal}
use Rattle.pt_signal.specs.declared.signal.Signal.TheVariants.{Message, Link, Unlink, LinkExit, Monitor, Demonitor}
use Rattle.pt_signal.specs.declared.signal.Signal.TheVariants.{AliveAsk, AliveSay}
use Rattle.pt_signal.specs.declared.letter.Letter.{Letter}
use Rattle.pt_signal.specs.Text.{pid_text, ref_text, link_id_text, second_text, ids_text, who_text, body_text, reason_text, yes_or_no_text, item_text, pick_text, signal_text, route_text, letter_text, left_over_text}
use Rattle.pt_events.specs.declared.event.Event.{Event}
use Rattle.pt_events.specs.declared.event.Event.TheVariants.{Born, Said, Came, Took, Flag, Left, Refused}
use Rattle.pt_events.specs.declared.event.Stamped.{Stamped}
use Rattle.pt_events.specs.Text.{parent_text, link_text, switch_text, event_text, stamped_text}
use Rattle.pt_signal.specs.declared.letter.LeftOver.{LeftOver}
use Rattle.pt_texts.specs.Fits.{FitsIfAny, FitsPid, FitsRef, FitsLinkId, FitsIds, FitsBody, FitsReason, FitsItem, FitsPick, FitsSignal, FitsLetter, FitsEvent, FitsStamped, FitsLeftOver}

byte : (n : ℕ) → n < 2 ^ 8 → length (decimal n) ≤ 3
byte n h = length-decimal-le 3 n (omega arith) (omega (arith, h)) (omega (arith, h))

word : (n : ℕ) → n < 2 ^ 32 → length (decimal n) ≤ 10
word n h = length-decimal-le 10 n (omega arith) (omega (arith, h)) (omega (arith, h))

long : (n : ℕ) → n < 2 ^ 64 → length (decimal n) ≤ 20
long n h = length-decimal-le 20 n (omega arith) (omega (arith, h)) h

pid_length : (p : Pid) → FitsPid p → length (pid_text p) ≤ 27
unfolding pid_text
pid_length p h = simp length-append (omega (arith, byte p.shard h.0, word p.slot h.1, word p.version h.2))

ref_length : (m : Ref) → FitsRef m → length (ref_text m) ≤ 25
unfolding ref_text
ref_length m h = simp length-append (omega (arith, byte m.desk h.0, long m.number h.1))

link_length : (i : LinkId) → FitsLinkId i → length (link_id_text i) ≤ 25
unfolding link_id_text
link_length i h = simp length-append (omega (arith, byte i.desk h.0, long i.number h.1))

second_length : (o : Option LinkId) → FitsIfAny FitsLinkId o → length (second_text o) ≤ 26
second_length None h = omega arith
second_length (Some i) h = simp length-append (omega (arith, link_length i h))

ids_length : (ids : Ids) → FitsIds ids → length (ids_text ids) ≤ 51
unfolding ids_text
ids_length ids h = simp length-append (omega (arith, link_length ids.one h.0, second_length ids.two h.1))

who_length : (o : Option Pid) → FitsIfAny FitsPid o → length (who_text o) ≤ 32
who_length None h = omega arith
who_length (Some p) h = simp length-append (omega (arith, pid_length p h))

body_length : (b : Body) → FitsBody b → length (body_text b) ≤ 63
unfolding body_text
body_length b h = simp length-append (omega (arith, word b.kind h.0, length_signed_le 19 b.num (omega (arith, h.1)) h.1, who_length b.who h.2))

reason_length : (r : Reason) → FitsReason r → length (reason_text r) ≤ 16
unfolding reason_text
reason_length Normal h = omega arith
reason_length Kill h = omega arith
reason_length Killed h = omega arith
reason_length Noproc h = omega arith
reason_length Shutdown h = omega arith
reason_length (Other n) h = simp length-append (omega (arith, word n h))

alive_length : (x : Bool) → length (yes_or_no_text x) ≤ 3
unfolding yes_or_no_text
alive_length true = omega arith
alive_length false = omega arith

item_length : (i : Item) → FitsItem i → length (item_text i) ≤ 100
unfolding item_text
item_length (User p b) h = simp length-append (omega (arith, pid_length p h.0, body_length b h.1))
item_length (Item.Exit p r) h = simp length-append (omega (arith, pid_length p h.0, reason_length r h.1))
item_length (Item.Down m p r) h = simp length-append (omega (arith, ref_length m h.0, pid_length p h.1, reason_length r h.2))
item_length (Item.Alive m p x) h = simp length-append (omega (arith, ref_length m h.0, pid_length p h.1, alive_length x))

pick_length : (k : Pick) → FitsPick k → length (pick_text k) ≤ 40
unfolding pick_text
pick_length Pick.Any h = omega arith
pick_length (Pick.Kind n) h = simp length-append (omega (arith, word n h))
pick_length (Pick.From p) h = simp length-append (omega (arith, pid_length p h))
pick_length (Pick.ExitOf p) h = simp length-append (omega (arith, pid_length p h))
pick_length (Pick.DownOf m) h = simp length-append (omega (arith, ref_length m h))
pick_length (Pick.AliveOf m) h = simp length-append (omega (arith, ref_length m h))

signal_length : (x : Signal) → FitsSignal x → length (signal_text x) ≤ 80
unfolding signal_text
signal_length (Message b) h = simp length-append (omega (arith, body_length b h))
signal_length (Link i) h = simp length-append (omega (arith, link_length i h))
signal_length (Unlink ids) h = simp length-append (omega (arith, ids_length ids h))
signal_length (Signal.Exit r) h = simp length-append (omega (arith, reason_length r h))
signal_length (LinkExit ids r) h = simp length-append (omega (arith, ids_length ids h.0, reason_length r h.1))
signal_length (Monitor m) h = simp length-append (omega (arith, ref_length m h))
signal_length (Demonitor m) h = simp length-append (omega (arith, ref_length m h))
signal_length (Signal.Down m r) h = simp length-append (omega (arith, ref_length m h.0, reason_length r h.1))
signal_length (AliveAsk m) h = simp length-append (omega (arith, ref_length m h))
signal_length (AliveSay m x) h = simp length-append (omega (arith, ref_length m h, alive_length x))

route_length : (a b : Pid) → FitsPid a → FitsPid b → length (route_text a b) ≤ 58
unfolding route_text
route_length a b h k = simp length-append (omega (arith, pid_length a h, pid_length b k))

parent_length : (o : Option Pid) → FitsIfAny FitsPid o → length (parent_text o) ≤ 31
unfolding parent_text
parent_length None h = omega arith
parent_length (Some p) h = simp length-append (omega (arith, pid_length p h))

birth_link_length : (o : Option LinkId) → FitsIfAny FitsLinkId o → length (link_text o) ≤ 31
unfolding link_text
birth_link_length None h = omega arith
birth_link_length (Some i) h = simp length-append (omega (arith, link_length i h))

switch_length : (on : Bool) → length (switch_text on) ≤ 3
unfolding switch_text
switch_length true = omega arith
switch_length false = omega arith

event_length : (e : Event) → FitsEvent e → length (event_text e) ≤ 200
unfolding event_text
event_length (Born p parent link) h = simp length-append (omega (arith, pid_length p h.0, parent_length parent h.1, birth_link_length link h.2))
event_length (Said a b x) h = simp length-append (omega (arith, route_length a b h.0.0 h.0.1, signal_length x h.1))
event_length (Came a b x) h = simp length-append (omega (arith, route_length a b h.0.0 h.0.1, signal_length x h.1))
event_length (Took p k i) h = simp length-append (omega (arith, pid_length p h.0, pick_length k h.1, item_length i h.2))
event_length (Flag p on) h = simp length-append (omega (arith, pid_length p h, switch_length on))
event_length (Left p r) h = simp length-append (omega (arith, pid_length p h.0, reason_length r h.1))
event_length (Refused a b) h = simp length-append (omega (arith, route_length a b h.0 h.1))

pub stamped_length : (s : Stamped) → FitsStamped s → length (stamped_text s) < 1024
unfolding stamped_text
stamped_length s h = simp length-append (omega (arith, long s.stamp h.0, byte s.desk h.1, event_length s.event h.2))

letter_length : (l : Letter) → FitsLetter l → length (letter_text l) ≤ 200
unfolding letter_text
letter_length l h = simp length-append (omega (arith, route_length l.from l.to h.0.0 h.0.1, signal_length l.signal h.1, long l.stamp h.2))

pub left_over_length : (l : LeftOver) → FitsLeftOver l → length (left_over_text l) < 1024
unfolding left_over_text
left_over_length l h = simp length-append (omega (arith, byte l.from_desk h.0, byte l.to_desk h.1, letter_length l.letter h.2))
