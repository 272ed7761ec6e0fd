-- How many letters turns can handle at most.
use Rattle.std.specs.Prelude.{ℕ, ◌≤◌, List}
use Rattle.pt_events.specs.declared.event.Stamped.{Stamped}
use Rattle.pt_events.specs.Journal.{IsMerge, events}
use Rattle.pt_laws.specs.Load.{load}
use Rattle.pt_gathered.specs.Gathered.{journal_at}
use Rattle.pt_beginning.specs.Beginning.{start_of}
use Rattle.pt_desk.specs.DeskState.{DeskState}
use Rattle.pt_workers.specs.Desks.{all_shards}

-- so many letters are no more than the load of the one history of the desks
abbrev pub IsWithinLoad : List DeskState → ℕ → Type 0
IsWithinLoad desks handled =
    (merged : List Stamped) → IsMerge (journal_at (all_shards desks)) merged
    → handled ≤ load (start_of (all_shards desks)) (events merged)
