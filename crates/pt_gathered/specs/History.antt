-- The journals of the desks, as `merge` takes them. No public clause cites this module.
use Rattle.std.specs.Prelude.{◌≡◌, ℕ, List, map}
use denote.Ref.{Bor}
use Rattle.pt_events.specs.declared.event.Stamped.{Stamped}
use Rattle.pt_events.specs.JournalState.{JournalState}
use Rattle.pt_shard.specs.ShardState.{ShardState}

-- each is that of the desk at its place
abbrev pub AreJournalsOf : List (Bor JournalState) → List ShardState → Type 0
AreJournalsOf journals shards =
    map {B = ℕ × List Stamped} (λ (j : Bor JournalState). (j.now.desk, j.now.past)) journals
    ≡ map (λ (s : ShardState). (s.number, s.journal)) shards
