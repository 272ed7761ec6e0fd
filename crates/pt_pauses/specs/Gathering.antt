-- The supervisors of a node that is gathered.
use Rattle.std.specs.Prelude.{◌≡◌, ℕ, ◌<◌, List, length, slice_index_or}
use Rattle.pt_events.specs.History.{Past}
use Rattle.pt_shard.specs.ShardState.{ShardState}
use Rattle.pt_desk.specs.DeskState.{DeskState}
use Rattle.pt_gathered.specs.Gathered.{GatheredState, IsGathered}
use Rattle.pt_workers.specs.Desks.{all_shards}
use Rattle.pt_crew.specs.declared.crew.Crew.{Crew}
use Rattle.pt_crew.specs.Running.{AllUphold, AreIdle}
use Rattle.pt_supervisor.specs.Keeping.{Keeps, PartOf}
use Rattle.pt_pauses.specs.Still.{ChildrenLive, IsStillNode}

-- on each desk of the node each child that its supervisor wants alive lives, or took its link away itself; unless the
-- supervisor is ending one that traps exits and lives on
abbrev pub AllChildrenLive : {B : Type 0} → Past → PartOf B → List (Crew B) → GatheredState → Type 0
AllChildrenLive {B} past part crews g =
    (d : ℕ) (c : Crew B) (x : ShardState) → d < length g.shards
    → ChildrenLive past part (slice_index_or crews d c) (slice_index_or g.shards d x) g

-- So it is in a node that is still: where none of the crews, whose supervisors uphold that their children are held, has
-- anything to do on its desk, and the gathered node has the desks as they were, and is still.
abbrev pub GatheredChildrenLive : {B : Type 0} → PartOf B → Type 0
GatheredChildrenLive {B} part =
    (past : Past) (crews : List (Crew B)) (desks : List DeskState) (g : GatheredState)
    → AllUphold (Keeps past part) crews desks → AreIdle crews desks → g.shards ≡ all_shards desks → IsGathered g
    → IsStillNode g → AllChildrenLive past part crews g
