-- The printed texts of verdicts, of what became of processes, and of faults, as lists of characters.
use Rattle.std.specs.Prelude.{ℕ, List, ◌++◌, codes, decimal, Option, Some, None}
use Rattle.pt_signal.specs.declared.reason.Reason.{Reason}
use Rattle.pt_signal.specs.declared.item.Item.{Item}
use Rattle.pt_signal.specs.declared.signal.Signal.{Signal}
use Rattle.pt_signal.specs.Text.{pid_text, reason_text, item_text, signal_text, letter_text, fate_text}
use Rattle.pt_events.specs.Text.{stamped_text}
use Rattle.pt_judge.specs.Text.{cause_text}
use Rattle.pt_auditor.specs.declared.hearing.Verdict.{Verdict}
use Rattle.pt_auditor.specs.declared.saved.Damage.{Damage}
use Rattle.pt_auditor.specs.declared.saved.Flaw.{Flaw}
use Rattle.pt_auditor.specs.declared.standing.Standing.{Standing}
use Rattle.pt_auditor.specs.declared.objection.Contradiction.{Contradiction}
use Rattle.pt_auditor.specs.declared.objection.Contradiction.TheVariants.{Oldest, First, Dead, Nothing}
use Rattle.pt_auditor.specs.declared.objection.Objection.{Objection}
use Rattle.pt_auditor.specs.declared.objection.Objection.TheVariants as no
use Rattle.pt_auditor.specs.declared.fault.Why.{Why}
use Rattle.pt_auditor.specs.declared.fault.Why.TheVariants.{Unread, Event, Letter, Over, Long}
use Rattle.pt_auditor.specs.declared.fault.Why.TheVariants as why
use Rattle.pt_auditor.specs.declared.fault.Fault.{Fault}
use Rattle.pt_auditor.specs.declared.foreign.Foreign.{Foreign}
use Rattle.pt_auditor.specs.declared.foreign.NoNode.{NoNode}
use Rattle.pt_auditor.specs.declared.foreign.NoNode.TheVariants as alien

unfoldable pub no_node_text : NoNode → List ℕ
no_node_text alien.Desk = codes "a node has desks 0 to 63"
no_node_text alien.Stamp = codes "a node's stamps are from 1 to 4611686018427387904"
no_node_text alien.Slot = codes "a node has slots 0 to 65535"
no_node_text alien.NoVersion = codes "a node has versions from 1 on"
no_node_text alien.OtherDesk = codes "the process is of another desk"
no_node_text alien.OtherId = codes "what is new is not named by the desk and the stamp"
no_node_text alien.Version = codes "the version before it in the slot has not ended"
no_node_text alien.Unborn = codes "the receiver is of the same desk, and was not born"
no_node_text alien.Ended = codes "the receiver is of the same desk, and has ended"
no_node_text alien.Seen = codes "the desk has seen that the receiver has ended"
no_node_text alien.Overtakes = codes "an older letter between the two desks is on its way"
no_node_text alien.OtherStamp = codes "the stamp is not the one that a node gives"
no_node_text alien.OtherTurn = codes "letters left over are in the order of their desks"

unfoldable pub foreign_text : Foreign → List ℕ
foreign_text f = codes "line " ++ decimal f.line ++ codes ": " ++ no_node_text f.why

unfoldable pub verdict_counts_text : Verdict → List ℕ
verdict_counts_text v =
    codes "legal: " ++ decimal v.events ++ codes " events, " ++ decimal v.desks ++ codes " desks, " ++ decimal v.letters
    ++ codes " letters on their way"

-- what is legal, or legal but of no node
unfoldable pub verdict_text_of : Verdict → Option Foreign → List ℕ
verdict_text_of v None = verdict_counts_text v
verdict_text_of v (Some f) = codes "legal, but of no node: " ++ foreign_text f

unfoldable pub verdict_text : Verdict → List ℕ
verdict_text v = verdict_text_of v v.foreign

unfoldable pub standing_text : Standing → List ℕ
standing_text s = pid_text s.pid ++ codes " " ++ fate_text s.ended ++ codes " waiting " ++ decimal s.waiting

unfoldable pub any_signal_text : Option Signal → List ℕ
any_signal_text None = codes "nothing"
any_signal_text (Some x) = signal_text x

unfoldable pub any_item_text : Option Item → List ℕ
any_item_text None = codes "nothing"
any_item_text (Some i) = item_text i

unfoldable pub absence_text : Option Reason → List ℕ
absence_text None = codes "was never born"
absence_text (Some r) = codes "ended with " ++ reason_text r

unfoldable pub contradiction_text : Contradiction → List ℕ
contradiction_text (Oldest x) = codes "; the oldest on its way between the two: " ++ any_signal_text x
contradiction_text (First i) = codes "; the first that fits: " ++ any_item_text i
contradiction_text (Dead p r) = codes "; " ++ pid_text p ++ codes " " ++ absence_text r
contradiction_text Nothing = codes ""

unfoldable pub objection_text : Objection → List ℕ
objection_text no.Behind = codes "an event behind a letter left over"
objection_text (no.Sinks last) = codes "its stamp and desk do not rise above those of: " ++ stamped_text last
objection_text (no.MayNot c against) = cause_text c ++ contradiction_text against
objection_text no.OtherDesks = codes "the desks are not those of the sender and the receiver"
objection_text (no.OtherLetter x) =
    codes "it is not the oldest on its way between the two, which is: " ++ any_signal_text x
objection_text (no.Untold a b x) =
    codes "no line tells of what is on its way: " ++ pid_text a ++ codes " -> " ++ pid_text b ++ codes " " ++ signal_text x
objection_text (no.OfNoNode why) = codes "no node prints it: " ++ no_node_text why
objection_text no.Memory = codes "memory refused"

unfoldable pub line_fault_text : Why → List ℕ
line_fault_text (Unread column) = codes "column " ++ decimal column ++ codes ": no event and no letter left over"
line_fault_text (Event s o) = stamped_text s ++ codes ": " ++ objection_text o
line_fault_text (Letter l o) = letter_text l.letter ++ codes ": " ++ objection_text o
line_fault_text (Over o) = objection_text o
line_fault_text Long = codes "more than 1024 bytes"
line_fault_text why.Memory = codes "memory refused"

unfoldable pub fault_text : Fault → List ℕ
fault_text f = codes "line " ++ decimal f.line ++ codes ": " ++ line_fault_text f.why

-- why a line of a state is refused
unfoldable pub flaw_text : Flaw → List ℕ
flaw_text Flaw.Unread = codes "no line of a state"
flaw_text Flaw.Misplaced = codes "a line that may not come here"
flaw_text Flaw.Sum = codes "the sum is not that of the lines before it"
flaw_text Flaw.Behind = codes "more comes after the end"
flaw_text Flaw.Memory = codes "memory refused"

unfoldable pub damage_text : Damage → List ℕ
damage_text d =
    codes "line " ++ decimal d.line ++ codes ": column " ++ decimal d.column ++ codes ": " ++ flaw_text d.flaw
