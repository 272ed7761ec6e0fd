-- The texts of answers: lines, each with a line feed at its end.
use Rattle.std.specs.Prelude.{ℕ, Bool, List, [], ◌∷◌, ◌++◌, codes, decimal, Option, Some, None, Result, Ok, Err}
use Rattle.pt_signal.specs.declared.pid.Pid.{Pid}
use Rattle.pt_signal.specs.declared.ids.Ref.{Ref}
use Rattle.pt_signal.specs.declared.item.Item.{Item}
use Rattle.pt_signal.specs.declared.reason.Reason.{Reason}
use Rattle.pt_signal.specs.Text.{pid_text, ref_text, ids_text, item_text, reason_text, left_over_text, true_or_false_text}
use Rattle.pt_events.specs.declared.event.Stamped.{Stamped}
use Rattle.pt_events.specs.Text.{stamped_text}
use Rattle.pt_judge.specs.declared.cause.Cause.{Cause}
use Rattle.pt_judge.specs.Text.{cause_text}
use Rattle.pt_accounts.specs.declared.account.Account.{Account}
use Rattle.pt_shard.specs.declared.fault.Fault.{Fault}
use Rattle.pt_shard.specs.declared.fault.Fault.TheVariants as fault
use Rattle.pt_shard.specs.declared.stop.Stop.{Stop}
use Rattle.pt_shard.specs.declared.stop.Stop.TheVariants as stop
use Rattle.pt_signal.specs.declared.config.OpenError.{OpenError}
use Rattle.pt_signal.specs.declared.config.OpenError.TheVariants as open_error
use Rattle.pt_signal.specs.declared.config.Setting.{Setting}
use Rattle.pt_signal.specs.declared.config.Setting.TheVariants as setting
use Rattle.pt_desk.specs.declared.turned.Turned.{Turned}
use Rattle.pt_signal.specs.declared.letter.LeftOver.{LeftOver}
use Rattle.pt_node.specs.declared.node_fault.NodeFault.{NodeFault}
use Rattle.pt_node.specs.declared.node_fault.NodeFault.TheVariants as node_fault
use Rattle.pt_workers.specs.declared.stillness.Stopped.{Stopped}
use Rattle.pt_shell.specs.declared.answer.Answer.{Answer}

-- a text as a line
abbrev pub text_line : List ℕ → List ℕ
text_line text = text ++ codes "\n"

abbrev pub fault_word : Fault → List ℕ
fault_word fault.Full = codes "full"
fault_word fault.Memory = codes "memory"
fault_word fault.Worn = codes "worn"
fault_word fault.Gone = codes "gone"
fault_word fault.Myself = codes "myself"
fault_word fault.NoProc = codes "noproc"

abbrev pub refusal_word : NodeFault → List ℕ
refusal_word node_fault.NoDesk = codes "unknown"
refusal_word node_fault.Unknown = codes "unknown"
refusal_word (node_fault.Refused f) = fault_word f

abbrev pub stop_word : Stop → List ℕ
stop_word stop.Memory = codes "memory"
stop_word stop.Worn = codes "worn"

abbrev pub setting_word : Setting → List ℕ
setting_word setting.Desks = codes "desks"
setting_word setting.Slots = codes "slots"
setting_word setting.TopVersion = codes "top_version"
setting_word setting.Lane = codes "lane"
setting_word setting.Start = codes "start"

abbrev pub opened_text : Result (Unit {0}) OpenError → List ℕ
opened_text (Ok u) = text_line (codes "ok")
opened_text (Err (open_error.Bounds s)) = codes "bounds " ++ setting_word s ++ codes "\n"
opened_text (Err open_error.Memory) = text_line (codes "memory")

abbrev pub made_text : Result Pid NodeFault → List ℕ
made_text (Ok p) = text_line (pid_text p)
made_text (Err f) = text_line (refusal_word f)

abbrev pub done_text : Result (Unit {0}) NodeFault → List ℕ
done_text (Ok u) = text_line (codes "ok")
done_text (Err f) = text_line (refusal_word f)

abbrev pub named_text : Result Ref NodeFault → List ℕ
named_text (Ok m) = text_line (ref_text m)
named_text (Err f) = text_line (refusal_word f)

abbrev pub told_text : Result Bool NodeFault → List ℕ
told_text (Ok b) = text_line (true_or_false_text b)
told_text (Err f) = text_line (refusal_word f)

abbrev pub taken_text : Result (Option Item) NodeFault → List ℕ
taken_text (Ok (Some i)) = text_line (item_text i)
taken_text (Ok None) = text_line (codes "none")
taken_text (Err f) = text_line (refusal_word f)

unfoldable pub turns_text : ℕ → ℕ → List ℕ
turns_text posted handled = codes "posted " ++ decimal posted ++ codes " handled " ++ decimal handled

unfoldable pub then_text : Stop → List ℕ
then_text s = codes ", then " ++ stop_word s

abbrev pub turn_text : ℕ → ℕ → Option Stop → List ℕ
turn_text posted handled None = text_line (turns_text posted handled)
turn_text posted handled (Some s) = text_line (turns_text posted handled ++ then_text s)

abbrev pub turned_text : Result Turned NodeFault → List ℕ
turned_text (Ok t) = turn_text t.posted t.handled t.stopped
turned_text (Err f) = text_line (refusal_word f)

unfoldable pub count_text : ℕ → List ℕ
count_text handled = codes "handled " ++ decimal handled

unfoldable pub stopped_text : Stopped → List ℕ
stopped_text s = codes ", then desk " ++ decimal s.desk ++ codes " " ++ stop_word s.cause

abbrev pub rested_text : ℕ → Option Stopped → List ℕ
rested_text handled None = text_line (count_text handled)
rested_text handled (Some s) = text_line (count_text handled ++ stopped_text s)

abbrev pub number_line : Option ℕ → List ℕ
number_line (Some n) = text_line (decimal n)
number_line None = text_line (codes "unknown")

abbrev pub truth_text : Option Bool → List ℕ
truth_text (Some b) = text_line (true_or_false_text b)
truth_text None = text_line (codes "unknown")

-- a value, or that there is none
abbrev pub or_none : {A : Type 0} → (A → List ℕ) → Option A → List ℕ
or_none print (Some x) = text_line (print x)
or_none print None = text_line (codes "none")

unfoldable pub counts_text : ℕ → ℕ → ℕ → List ℕ
counts_text arrived taken waiting =
    codes " arrived " ++ decimal arrived ++ codes " taken " ++ decimal taken ++ codes " waiting " ++ decimal waiting

abbrev pub fate_line : Option Reason → List ℕ → List ℕ
fate_line None counts = text_line (codes "alive" ++ counts)
fate_line (Some r) counts = text_line (codes "ended " ++ reason_text r ++ counts)

abbrev pub account_told : Option Account → List ℕ
account_told None = text_line (codes "none")
account_told (Some a) = fate_line a.ended (counts_text a.arrived a.taken a.waiting)

abbrev pub more_items : List Item → List ℕ
more_items [] = []
more_items (i ∷ items) = codes "; " ++ (item_text i ++ more_items items)

abbrev pub mailbox_text : List Item → List ℕ
mailbox_text [] = text_line (codes "nothing")
mailbox_text (i ∷ items) = item_text i ++ more_items items ++ codes "\n"

abbrev pub event_lines : List Stamped → List ℕ
event_lines [] = []
event_lines (e ∷ events) = stamped_text e ++ (codes "\n" ++ event_lines events)

abbrev pub events_text : List Stamped → List ℕ
events_text [] = text_line (codes "nothing")
events_text (e ∷ events) = event_lines (e ∷ events)

abbrev pub letter_lines : List LeftOver → List ℕ
letter_lines [] = []
letter_lines (l ∷ letters) = left_over_text l ++ (codes "\n" ++ letter_lines letters)

abbrev pub letters_text : List LeftOver → List ℕ
letters_text [] = text_line (codes "nothing")
letters_text (l ∷ letters) = letter_lines (l ∷ letters)

abbrev pub more_pids : List Pid → List ℕ
more_pids [] = []
more_pids (p ∷ pids) = codes " " ++ (pid_text p ++ more_pids pids)

abbrev pub pids_text : List Pid → List ℕ
pids_text [] = text_line (codes "nothing")
pids_text (p ∷ pids) = pid_text p ++ more_pids pids ++ codes "\n"

abbrev pub handled_text : Result ℕ Stop → List ℕ
handled_text (Ok n) = text_line (count_text n)
handled_text (Err s) = text_line (stop_word s)

unfoldable pub cause_line : ℕ → Cause → List ℕ
cause_line place cause = codes "event " ++ decimal place ++ codes ": " ++ cause_text cause

abbrev pub judged_text : Result (Unit {0}) (ℕ × Cause) → List ℕ
judged_text (Ok u) = text_line (codes "legal")
judged_text (Err stop) = text_line (cause_line stop.0 stop.1)

-- the lines of an answer
abbrev pub answer_text : Answer → List ℕ
answer_text (Answer.Opened r) = opened_text r
answer_text (Answer.Made r) = made_text r
answer_text (Answer.Done r) = done_text r
answer_text (Answer.Named r) = named_text r
answer_text (Answer.Told r) = told_text r
answer_text (Answer.Taken r) = taken_text r
answer_text (Answer.Turned r) = turned_text r
answer_text (Answer.Rested r) = rested_text r.handled r.stopped
answer_text (Answer.Number n) = number_line n
answer_text (Answer.Truth b) = truth_text b
answer_text (Answer.Pid p) = or_none pid_text p
answer_text (Answer.Ids ids) = or_none ids_text ids
answer_text (Answer.Reason r) = or_none reason_text r
answer_text (Answer.Event e) = or_none stamped_text e
answer_text (Answer.Account a) = account_told a
answer_text (Answer.Items (Some items)) = mailbox_text items.items
answer_text (Answer.Items None) = text_line (codes "none")
answer_text (Answer.Events events) = events_text events.items
answer_text (Answer.Letters letters) = letters_text letters.items
answer_text (Answer.Pids pids) = pids_text pids.items
answer_text (Answer.LeftOver n) = codes "left-over " ++ decimal n ++ codes "\n"
answer_text (Answer.Handled r) = handled_text r
answer_text (Answer.Judged r) = judged_text r
answer_text Answer.Resumed = text_line (codes "ok")
answer_text Answer.Unknown = text_line (codes "unknown")
answer_text Answer.NoMemory = text_line (codes "memory")
