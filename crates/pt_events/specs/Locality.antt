-- Histories of which each event is of pids of its own desk: what a desk's journal says of its own pids.
use Rattle.std.specs.Prelude.{◌≡◌, ℕ, List, [], ◌∷◌, ⊤}
use Rattle.pt_signal.specs.declared.pid.Pid.{Pid}
use Rattle.pt_events.specs.declared.event.Event.{Event}
use Rattle.pt_events.specs.declared.event.Stamped.{Stamped}
use Rattle.pt_events.specs.History.{Start, life, arrived, sent_by}
use Rattle.pt_events.specs.Journal.{Journals, IsHome, IsLocal, IsMerge, events, of_desk}
use Rattle.pt_events.specs.Takes.{taken}

-- every event is of pids of its own desk
abbrev pub AllHome : List Stamped → Type 0
AllHome [] = ⊤
AllHome (s ∷ merged) = IsHome s.desk s.event × AllHome merged

-- what a process is after a history, all that ever arrived in its mailbox, and what it took, is told by the events of
-- its own desk
abbrev pub ReadLocally : Type 0
ReadLocally =
    (start : Start) (merged : List Stamped) (p : Pid) → AllHome merged
    → (life start (events (of_desk p.shard merged)) p ≡ life start (events merged) p)
    × (arrived start (events (of_desk p.shard merged)) p ≡ arrived start (events merged) p)
    × (taken (events (of_desk p.shard merged)) p ≡ taken (events merged) p)

-- and so is what an event of that desk sends
abbrev pub SentLocally : Type 0
SentLocally =
    (start : Start) (merged : List Stamped) (d : ℕ) (e : Event) → AllHome merged → IsHome d e
    → sent_by start (events (of_desk d merged)) e ≡ sent_by start (events merged) e

-- so the journal of a process's desk says of it, and of what its next event sends, what every merge says
abbrev pub JournalsSay : Type 0
JournalsSay =
    (start : Start) (low top : ℕ) (journal : Journals) (merged : List Stamped) (p : Pid)
    → ((d : ℕ) → IsLocal start low top d (journal d)) → IsMerge journal merged
    → (life start (events (journal p.shard)) p ≡ life start (events merged) p)
    × (arrived start (events (journal p.shard)) p ≡ arrived start (events merged) p)
    × (taken (events (journal p.shard)) p ≡ taken (events merged) p)
    × ((e : Event) → IsHome p.shard e → sent_by start (events (journal p.shard)) e ≡ sent_by start (events merged) e)
