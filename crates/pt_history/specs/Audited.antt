-- The history of a node that was opened passes the audit.
use Rattle.std.specs.Prelude.{◌≡◌, ℕ, ◌<◌, List, [], Option, None, length, reverse, slice_index_or}
use Rattle.pt_events.specs.declared.event.Stamped.{Stamped}
use Rattle.pt_events.specs.Journal.{IsMerge}
use Rattle.pt_gathered.specs.Gathered.{GatheredState, IsGathered, journals}
use Rattle.pt_gathered.specs.LeftOvers.{all_left}
use Rattle.pt_gathered.specs.Pasts.{GoesOnBut}
use Rattle.pt_shard.specs.ShardState.{ShardState}
use Rattle.pt_auditor.specs.declared.foreign.Foreign.{Foreign}
use Rattle.pt_auditor.specs.Foreigners.{IsOrigin}
use Rattle.pt_history.specs.Passing.{PassesAudit}
use Rattle.pt_history.specs.Calling.{IsCalledDesk}

-- nothing was before it: the events of its desks, merged, and the letters left over, in the order in which it lists them
abbrev pub NodesPass : Type 0
NodesPass =
    (g : GatheredState) (merged : List Stamped) → IsGathered g → GoesOnBut [] g → IsMerge (journals g) merged
    → PassesAudit merged (reverse (all_left g))

-- and the audit names no line of it where all that its desks wrote is as the audit has it of their calls
abbrev pub NodeCallsPass : Type 0
NodeCallsPass =
    (g : GatheredState) (merged : List Stamped) → IsGathered g → GoesOnBut [] g → IsMerge (journals g) merged
    → ((d : ℕ) (x : ShardState) → d < length g.shards → IsCalledDesk (journals g) (slice_index_or g.shards d x))
    → (o : Option Foreign) → IsOrigin merged (reverse (all_left g)) o → o ≡ None
