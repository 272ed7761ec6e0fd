-- Laws on signals between two pids, and on merges.
use Rattle.std.specs.Prelude.{◌≡◌, ℕ, List, ◌++◌, map, filter}
use Rattle.pt_signal.specs.declared.pid.Pid.{Pid}
use Rattle.pt_signal.specs.declared.letter.Letter.{Letter}
use Rattle.pt_events.specs.declared.event.Stamped.{Stamped}
use Rattle.pt_events.specs.History.{Past, Start, IsLegal, emitted, came, flight, flying}
use Rattle.pt_events.specs.Journal.{Journals, LanesAgree, in_lane, IsLocal, IsMerge, events, content}
use Rattle.pt_events.specs.Refusals.{RefusalsAreTrue}
use Rattle.pt_laws.specs.Sender.{IsSenderFront}

-- what one pid sent another is what came, then what is in flight
abbrev pub CameOrFlies : Type 0
CameOrFlies =
    (start : Start) (past : Past) (a b : Pid) → IsLegal start past
    → emitted start past a b ≡ came past a b ++ flight start past a b

-- where lanes agree, a's messages to p are those that came before p's birth, those that arrived, those that came after
-- p's end, and those left over
abbrev pub SenderFront : Type 0
SenderFront =
    (start : Start) (journal : Journals) (over : ℕ → ℕ → List Letter) (a p : Pid) → LanesAgree start journal over
    → IsSenderFront a p start journal (over a.shard p.shard)

-- what is in flight from desk to desk is what the lanes leave over
abbrev pub LanesFly : Start → Past → (ℕ → ℕ → List Letter) → Type 0
LanesFly start past over = (d e : ℕ) → filter (in_lane d e) (flying start past) ≡ map content (over d e)

-- the history is legal, and its flights are what the lanes leave over
abbrev pub LegalWithLeftOver : Start → List Stamped → (ℕ → ℕ → List Letter) → Type 0
LegalWithLeftOver start merged over = IsLegal start (events merged) × LanesFly start (events merged) over

-- the merge of local journals whose lanes agree and whose refusals are true is so
abbrev pub MergeLegal : Type 0
MergeLegal =
    (start : Start) (low top : ℕ) (journal : Journals) (over : ℕ → ℕ → List Letter) (merged : List Stamped)
    → ((d : ℕ) → IsLocal start low top d (journal d)) → LanesAgree start journal over → RefusalsAreTrue start journal
    → IsMerge journal merged → LegalWithLeftOver start merged over
