-- The printed lines of a history and of a summary, as lists of characters.
use Rattle.std.specs.Prelude.{ℕ, List, [], ◌++◌, codes, decimal}
use Rattle.std.specs.List.{flat_map}
use Rattle.pt_signal.specs.declared.pid.Pid.{Pid}
use Rattle.pt_signal.specs.Text.{pid_text, left_over_text, fate_text}
use Rattle.pt_events.specs.declared.event.Stamped.{Stamped}
use Rattle.pt_events.specs.Text.{stamped_text}
use Rattle.pt_accounts.specs.declared.account.Account.{Account}
use Rattle.pt_signal.specs.declared.letter.LeftOver.{LeftOver}
use Rattle.pt_render.specs.Json.{json_text, json_left_over_text}
use Rattle.pt_render.specs.Mermaid.{mermaid_text, mermaid_left_over_text}
use Rattle.pt_report.specs.declared.form.Form.{Form}
use Rattle.pt_report.specs.declared.form.Form.TheVariants.{Lines, Diagram, Objects}
use Rattle.pt_report.specs.declared.totals.Totals.{Totals}

-- the first line of a diagram; the other forms have none
abbrev pub form_head : Form → List ℕ
form_head Lines = []
form_head Diagram = codes "sequenceDiagram\n"
form_head Objects = []

-- one event, and a line feed
abbrev pub line : Form → Stamped → List ℕ
line Lines s = stamped_text s ++ codes "\n"
line Diagram s = mermaid_text s ++ codes "\n"
line Objects s = json_text s ++ codes "\n"

-- one line an event, oldest first
abbrev pub lines : Form → List Stamped → List ℕ
lines form events = flat_map (line form) events

abbrev pub left_line : Form → LeftOver → List ℕ
left_line Lines l = left_over_text l ++ codes "\n"
left_line Diagram l = mermaid_left_over_text l.letter ++ codes "\n"
left_line Objects l = json_left_over_text l.from_desk l.to_desk l.letter ++ codes "\n"

-- one line a letter that was left over
abbrev pub left_lines : Form → List LeftOver → List ℕ
left_lines form letters = flat_map (left_line form) letters

-- a history: the events, then the letters left over
abbrev pub history_text : Form → List Stamped → List LeftOver → List ℕ
history_text form events letters = form_head form ++ (lines form events ++ left_lines form letters)

-- what became of a process: PID alive arrived A taken T waiting W
unfoldable pub account_text : Pid → Account → List ℕ
account_text p a =
    pid_text p ++ codes " " ++ fate_text a.ended ++ codes " arrived " ++ decimal a.arrived ++ codes " taken "
    ++ decimal a.taken ++ codes " waiting " ++ decimal a.waiting

-- the last line of a summary
unfoldable pub totals_text : Totals → List ℕ
totals_text t =
    codes "events " ++ decimal t.events ++ codes " left-over " ++ decimal t.left_over ++ codes " settled "
    ++ decimal t.settled
