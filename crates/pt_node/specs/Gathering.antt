-- What a gathering makes of the desks.
use Rattle.std.specs.Prelude.{◌≡◌, ℕ, ◌+◌, ◌<◌, true, List, [], length, map, slice_index_or, MatchOption}
use mathlib.Core.Option.{some}
use lib.ListN.{get_elem?}
use Rattle.pt_signal.specs.declared.pid.Pid.{Pid}
use Rattle.pt_events.specs.History.{Start, is_ended, life}
use Rattle.pt_events.specs.Journal.{Journals, events}
use Rattle.pt_events.specs.Refusals.{stamped_below}
use Rattle.pt_directory.specs.declared.view.Read.{Read}
use Rattle.pt_carrier.specs.Node.{AreLeft}
use Rattle.pt_gathered.specs.Gathered.{GatheredState, begins, journals}
use Rattle.pt_desk.specs.DeskState.{DeskState}
use Rattle.pt_desk.specs.Sight.{HasEndOf}
use Rattle.pt_workers.specs.Desks.{AreDesksOf, all_ends, all_shards}

-- the gathered node has the desks as handed in, and in its lanes what was posted and not collected
pub record Gathers (desks : List DeskState) (g : GatheredState) : Type 0 where
  pub node : AreDesksOf g.config desks
  pub shards : g.shards ≡ all_shards desks
  pub left : AreLeft (all_ends desks) g.lanes

-- the journals are those handed in, event for event
abbrev pub HasJournalsOf : List DeskState → GatheredState → Type 0
HasJournalsOf desks g =
    (length g.shards ≡ length desks)
    × ((d : ℕ) → journals g d ≡ slice_index_or (map (λ (d : DeskState). d.shard.journal) desks) d [])

-- whatever a desk has read as an end was one: the pids of that slot, up to the version that it found, have ended by
-- the events of their own desk, and none of these ends has a greater stamp
abbrev pub IsTrueRead : Start → Journals → Read → Type 0
IsTrueRead start journal r =
    (p : Pid) → HasEndOf p r
    → MatchOption r.stamp (Unit {0})
    (λ n. is_ended (life start (events (stamped_below (n + 1) (journal p.shard))) p) ≡ true)

abbrev pub ReadsAreTrue : List DeskState → GatheredState → Type 0
ReadsAreTrue desks g =
    (d : ℕ) (x : DeskState) → d < length desks → (k : ℕ) (r : Read)
    → get_elem? (slice_index_or desks d x).sight.reads k ≡ some r
    → IsTrueRead (begins g) (journals g) r
