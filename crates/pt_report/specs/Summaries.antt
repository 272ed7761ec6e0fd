-- What a summary prints.
use Rattle.std.specs.Prelude.{◌≡◌, ℕ, ◌-◌, ◌++◌, ◌==◌, Bool, true, false, List, [], length, map, Option, Some}
use Rattle.std.specs.Prelude.{None, codes, string_bytes}
use Rattle.std.specs.List.{before_first, flat_map}
use Rattle.std.specs.Io.KnownBytes.{Appends}
use Rattle.pt_signal.specs.declared.pid.Pid.{Pid}
use Rattle.pt_events.specs.History.{Past, Start}
use Rattle.pt_accounts.specs.declared.account.Account.{Account}
use Rattle.pt_accounts.specs.LivesState.{AreAllPids, InEveryMerge, account_in}
use Rattle.pt_gathered.specs.Gathered.{GatheredState, begins, journals}
use Rattle.pt_gathered.specs.LeftOvers.{all_left}
use Rattle.pt_gathered.specs.Quiet.{QuietState}
use Rattle.pt_gathered.specs.Settling.{event_count, Settles, NothingLeft}
use Rattle.pt_report.specs.declared.notes.Note.{Note}
use Rattle.pt_report.specs.declared.totals.Totals.{Totals}
use Rattle.pt_report.specs.Lines.{account_text, totals_text}
use Rattle.pt_events.specs.Counting.{capped}

-- the line of a process, if it was born
abbrev pub account_line : Pid → Option Account → List ℕ
account_line p None = []
account_line p (Some a) = account_text p a ++ codes "\n"

-- the lines of these processes, with what the history says of each
abbrev pub account_lines : Start → Past → List Pid → List ℕ
account_lines start past pids = flat_map (λ p. account_line p (account_in start past p)) pids

-- a line a process that was ever born, by shard, slot and version, whichever merge of the journals is read, and then
-- more
abbrev pub AppendsAccounts : List ℕ → QuietState → Option (List ℕ) → Option (List ℕ) → Type 0
AppendsAccounts more q old new =
    (pids : List Pid)
    × InEveryMerge (journals q.gathered)
    (λ past. AreAllPids (begins q.gathered) past pids
    × Appends old new (account_lines (begins q.gathered) past pids ++ more))

-- the totals of a gathered node, and of the same one settled
pub record Totalled (g : GatheredState) (q : QuietState) (t : Totals) : Type 0 where
  pub settles : Settles g q.gathered
  pub quiet : NothingLeft q.gathered
  pub events : t.events ≡ capped (event_count g)
  pub left_over : t.left_over ≡ length (all_left g)
  pub came : t.settled ≡ capped (event_count q.gathered - event_count g)

-- the node is settled; a line a process is written, and then the totals
abbrev pub Summarizes : GatheredState → Option (List ℕ) → Option (List ℕ) → Type 0
Summarizes g old new =
    (q : QuietState) × (t : Totals) × Totalled g q t × AppendsAccounts (totals_text t ++ codes "\n") q old new

-- a text up to its first line feed
abbrev pub first_line : List ℕ → List ℕ
first_line text = before_first (λ b. b == 10) text

-- explained: what a process is at, or why it ended, is on a line after its own; which text that is, is left open
abbrev pub noted_line : Start → Past → Note → List ℕ
noted_line start past n =
    account_line n.pid (account_in start past n.pid) ++ (codes "  " ++ first_line (string_bytes n.text) ++ codes "\n")

abbrev pub noted_lines : Start → Past → List Note → List ℕ
noted_lines start past notes = flat_map (noted_line start past) notes

-- the pids that the notes are of are all that were ever born
abbrev pub AreNotesOf : QuietState → List Note → Type 0
AreNotesOf q notes =
    InEveryMerge (journals q.gathered)
    (λ past. AreAllPids (begins q.gathered) past (map (λ (n : Note). n.pid) notes))

-- so many lines, and no more
abbrev pub AppendsNotes : QuietState → List Note → Option (List ℕ) → Option (List ℕ) → Type 0
AppendsNotes q notes old new =
    InEveryMerge (journals q.gathered) (λ past. Appends old new (noted_lines (begins q.gathered) past notes))

-- the node is settled; a line a process is written, with its note behind it, and then the totals
abbrev pub Explains : GatheredState → Option (List ℕ) → Option (List ℕ) → Type 0
Explains g old new =
    (q : QuietState) × (t : Totals) × Totalled g q t × (notes : List Note) × AreNotesOf q notes
    × (mid : Option (List ℕ)) × AppendsNotes q notes old mid × Appends mid new (totals_text t ++ codes "\n")

-- with notes where they are asked for
abbrev pub SummarizesAs : Bool → GatheredState → Option (List ℕ) → Option (List ℕ) → Type 0
SummarizesAs true g old new = Explains g old new
SummarizesAs false g old new = Summarizes g old new
