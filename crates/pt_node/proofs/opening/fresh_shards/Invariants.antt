-- `fresh_shards`: what holds in its loop over `number`.
use Rattle.std.proofs.Common.{◌≡◌, ℕ, ◌<◌, get_or, vec_len}
use Rattle.pt_shard.specs.ShardState.{ShardState}
use Rattle.pt_shard.specs.Opening.{fresh_shard}
use Rattle.pt_node.proofs.opening.fresh_shards.Given as goal

abbrev pub invariant-loop-number : goal.invariant-loop-number
invariant-loop-number l = record {
  count : vec_len l.shards ≡ l.number;
  each : (d : ℕ) (x : ShardState) → d < l.number → get_or l.shards.items d x ≡ fresh_shard l.fn.config d;
}
