-- The first letter left over from one desk to another is taken out. No public clause cites this module.
use Rattle.std.specs.Prelude.{◌≡◌, ℕ, ◌<◌, ◌==◌, ◌&&◌, cond, List, [], length, map, drop, slice_index_or, None}
use Rattle.pt_signal.specs.declared.letter.Letter.{Letter}
use Rattle.pt_signal.specs.declared.config.Config.{Config}
use Rattle.pt_shard.specs.ShardState.{ShardState}
use Rattle.pt_gathered.specs.Gathered.{over_in, IsShardOf}
use Rattle.pt_gathered.specs.Waits.{posted_in}

-- all of a desk but its letters
abbrev pub without_letters : ShardState → ShardState
without_letters s = record s { outbox = []; hold = None }

-- each desk is that of its number
abbrev pub AreShards : Config → List ShardState → Type 0
AreShards config shards = (d : ℕ) (x : ShardState) → d < length shards → IsShardOf config d (slice_index_or shards d x)

pub record TakesOut (d e : ℕ) (old new : List ShardState) (lanes lanes' : List (List Letter)) : Type 0 where
  pub bare_same : map without_letters new ≡ map without_letters old
  pub lane_count : length lanes' ≡ length lanes
  pub over : (i k : ℕ) → i < length old → k < length old
      → over_in new lanes' i k ≡ cond ((i == d) && (k == e)) (drop 1 (over_in old lanes i k)) (over_in old lanes i k)
  pub posted : (i k : ℕ) → i < length old → k < length old
      → posted_in new lanes' i k
      ≡ cond ((i == d) && (k == e)) (drop 1 (posted_in old lanes i k)) (posted_in old lanes i k)
