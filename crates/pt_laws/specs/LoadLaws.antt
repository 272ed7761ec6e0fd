-- Laws on what may still happen.
use Rattle.std.specs.Prelude.{◌≡◌, ℕ, ◌<◌, ◌≤◌, ◌+◌, ◌==◌, ◌&&◌, ◌↔◌, cond, List, [], ◌∷◌, ◌++◌, length, map, filter, ⊤}
use Rattle.pt_signal.specs.declared.pid.Pid.{Pid}
use Rattle.pt_signal.specs.declared.letter.Letter.{Letter}
use Rattle.pt_signal.specs.declared.signal.Signal.{Signal}
use Rattle.pt_events.specs.declared.event.Event.TheVariants.{Came}
use Rattle.pt_events.specs.declared.event.Stamped.{Stamped}
use Rattle.pt_events.specs.History.{Past, Start, unborn, at_start, flight, sent_by, May, IsLegal}
use Rattle.pt_events.specs.Journal.{Journals, IsLocal, LanesAgree, IsMerge, events, letter}
use Rattle.pt_laws.specs.Load.{IsStart, IsQuiet, weight, weights, desk_sizes, load, load_by_desk}
use Rattle.pt_laws.specs.Laws.{LanesFly}

-- each receipt lowers the load
abbrev pub LoadFalls : Type 0
LoadFalls =
    (start : Start) (past : Past) (a b : Pid) (x : Signal) → IsStart start → IsLegal start (Came a b x ∷ past)
    → load start (Came a b x ∷ past) < load start past

-- all events are receipts
abbrev pub AllCame : Past → Type 0
AllCame [] = ⊤
AllCame (Came a b x ∷ past) = AllCame past
AllCame (e ∷ past) = ⊥

-- so no more receipts than the load follow one another
abbrev pub ReceiptsBounded : Type 0
ReceiptsBounded =
    (start : Start) (old new : Past) → IsStart start → AllCame new → IsLegal start (new ++ old)
    → length new + load start (new ++ old) ≤ load start old

-- quiet is where nothing is in flight between any two pids
abbrev pub QuietFlights : Type 0
QuietFlights = (start : Start) (past : Past) → IsQuiet start past ↔ ((a b : Pid) → flight start past a b ≡ [])

-- no letter left over in any lane is quiet
abbrev pub EmptyIsQuiet : Type 0
EmptyIsQuiet = (start : Start) (past : Past) → LanesFly start past (λ d e. []) → IsQuiet start past

-- the oldest letter of a lane may come
abbrev pub OldestMayCome : Type 0
OldestMayCome =
    (start : Start) (past : Past) (over : ℕ → ℕ → List Letter) (l : Letter) (rest : List Letter)
    → LanesFly start past over
    → over l.from.shard l.to.shard ≡ l ∷ rest → May start past (Came l.from l.to l.signal)

-- settling, desk by desk ---------------------------------------------------------------

-- one receipt: what its desk holds afterwards and what goes out weigh less than what it held and the letter
abbrev pub OneReceipt : Type 0
OneReceipt =
    (start : Start) (past : Past) (a b : Pid) (x : Signal) → IsStart start
    → desk_sizes start b.shard (Came a b x ∷ past) + weights (sent_by start past (Came a b x)) + 1
    ≤ desk_sizes start b.shard past + weight x

-- the oldest letter left over from desk d to desk e comes there, by the event s; nothing else happens at the desks
-- below n
pub record OldestComes (start : Start) (n d e : ℕ) (l : Letter) (s : Stamped) (journal after : Journals)
    (over left : ℕ → ℕ → List Letter) : Type 0 where
  pub rest : List Letter
  pub oldest : over d e ≡ l ∷ rest
  pub there : l.to.shard ≡ e
  pub comes : s.event ≡ Came l.from l.to l.signal
  pub journals : (k : ℕ) → k < n → after k ≡ cond (k == e) (s ∷ journal k) (journal k)
  pub lanes : (i k : ℕ) → i < n → k < n
      → left i k
      ≡ cond ((i == d) && (k == e)) rest (over i k)
      ++ cond (i == e)
      (filter (λ r. r.to.shard == k) (map (letter s.stamp) (sent_by start (events (journal e)) s.event))) []

-- it lowers the load of the desks below n
abbrev pub ReceiptLowers : Type 0
ReceiptLowers =
    (start : Start) (n d e : ℕ) (l : Letter) (s : Stamped) (journal after : Journals) (over left : ℕ → ℕ → List Letter)
    → IsStart start
    → d < n → e < n → OldestComes start n d e l s journal after over left
    → load_by_desk start after left n < load_by_desk start journal over n

-- there are no desks but those below n
pub record HasDesks (n : ℕ) (start : Start) (journal : Journals) (over : ℕ → ℕ → List Letter) : Type 0 where
  pub journals : (d : ℕ) → n ≤ d → journal d ≡ []
  pub lanes : (d e : ℕ) → n ≤ e → over d e ≡ []
  pub begun : (p : Pid) → n ≤ p.shard → at_start start p ≡ unborn

-- the load desk by desk is the load of every merge
abbrev pub LoadByDesk : Type 0
LoadByDesk =
    (start : Start) (low top n : ℕ) (journal : Journals) (over : ℕ → ℕ → List Letter) (merged : List Stamped)
    → ((d : ℕ) → IsLocal start low top d (journal d)) → LanesAgree start journal over → IsMerge journal merged
    → HasDesks n start journal over
    → load_by_desk start journal over n ≡ load start (events merged)
