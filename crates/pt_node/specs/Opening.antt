-- A node that is opened.
use Rattle.std.specs.Prelude.{◌≡◌, ℕ, ◌<◌, List, length, slice_index_or, Result, Ok, Err, Vec, []}
use Rattle.pt_accounts.specs.DeskLives.{DeskTable}
use Rattle.pt_carrier.specs.Node.{IsNew}
use Rattle.pt_signal.specs.declared.config.Config.{Config}
use Rattle.pt_signal.specs.declared.config.OpenError.{OpenError}
use Rattle.pt_signal.specs.declared.config.OpenError.TheVariants.{Bounds, Memory}
use Rattle.pt_shard.specs.ShardState.{ShardState}
use Rattle.pt_signal.specs.Settings.{IsFirstOut, IsInRange}
use Rattle.pt_shard.specs.Opening.{fresh_shard}
use Rattle.pt_desk.specs.DeskState.{DeskState}
use Rattle.pt_workers.specs.Desks.{AreDesksOf}
use Rattle.pt_node.specs.Pasts.{GoOnFrom}

pub record AreFreshShards (config : Config) (shards : List ShardState) : Type 0 where
  pub count : length shards ≡ config.desks
  pub fresh_each : (d : ℕ) (x : ShardState) → d < length shards → slice_index_or shards d x ≡ fresh_shard config d

-- the table of a desk before whose journal nobody was
abbrev pub fresh_table : ℕ → DeskTable
fresh_table d = record { desk = d; slots = []; read = 0 }

pub record AreFreshTables (config : Config) (tables : List DeskTable) : Type 0 where
  pub count : length tables ≡ config.desks
  pub fresh_each : (d : ℕ) (x : DeskTable) → d < length tables → slice_index_or tables d x ≡ fresh_table d

-- the desks of one node on which nothing has happened, and nothing had happened before, with ends of lanes through
-- which nothing went, and a directory in which nobody has looked
pub record AreFresh (config : Config) (desks : List DeskState) : Type 0 where
  pub node : AreDesksOf config desks
  pub shards : (d : ℕ) (x : DeskState) → d < length desks → (slice_index_or desks d x).shard ≡ fresh_shard config d
  pub ends : (d : ℕ) (x : DeskState) → d < length desks
      → IsNew config.desks config.lane ((slice_index_or desks d x).outs, (slice_index_or desks d x).ins)
  pub unread : (d : ℕ) (x : DeskState) → d < length desks → (slice_index_or desks d x).sight.reads ≡ []
  pub first : GoOnFrom [] desks

abbrev pub Opens : {A : Type 0} → Config → Result (Vec DeskState A) OpenError → Type 0
Opens config (Ok desks) = IsInRange config × AreFresh config desks.items
Opens config (Err (Bounds setting)) = (¬ IsInRange config) × IsFirstOut config setting
Opens config (Err Memory) = IsInRange config
