-- What is known of the processes of each desk beside its journal.
use Rattle.std.specs.Prelude.{◌≡◌, ℕ, ◌<◌, List, length, slice_index_or}
use Rattle.pt_events.specs.Journal.{events}
use Rattle.pt_accounts.specs.DeskLives.{DeskTable, IsReadUpTo, IsTableOf}
use Rattle.pt_shard.specs.ShardState.{ShardState, past}
use Rattle.pt_gathered.specs.Gathered.{GatheredState, begins, journals}

-- the table of a desk: it tells of what was before the journal, and of the journal's oldest events so far
pub record IsTableFor (s : ShardState) (t : DeskTable) : Type 0 where
  pub desk : t.desk ≡ s.number
  pub read : IsReadUpTo s.start s.journal t

-- one for each desk, by its place
pub record AreTables (shards : List ShardState) (tables : List DeskTable) : Type 0 where
  pub count : length tables ≡ length shards
  pub each : (d : ℕ) (x : ShardState) (t : DeskTable) → d < length shards
      → IsTableFor (slice_index_or shards d x) (slice_index_or tables d t)

-- the table has what the desk's whole journal says
abbrev pub IsTold : ShardState → DeskTable → Type 0
IsTold s t = IsTableOf s.start s.number (past s) t

-- so has each of these, over what was before all desks together
abbrev pub TablesAreTold : GatheredState → List DeskTable → Type 0
TablesAreTold g tables =
    (d : ℕ) (t : DeskTable) → d < length tables
    → IsTableOf (begins g) d (events (journals g d)) (slice_index_or tables d t)
