-- `restart_all`: what holds in its loop over `shard`.
use Rattle.std.proofs.Common.{◌≡◌, ◌+◌, ◌≤◌, ◌++◌, map, reverse, vec_len}
use Rattle.std.specs.Vec.{vec_capacity}
use Rattle.pt_shard.specs.Begun.{Every}
use Rattle.pt_shard.specs.ShardState.{ShardState}
use Rattle.pt_shard.specs.Restart.{restarted}
use Rattle.pt_node.proofs.resuming.restart_all.Given as goal

abbrev pub invariant-loop-shard : goal.invariant-loop-shard
invariant-loop-shard l = record {
  shards : l.shards.items ++ map (restarted l.start) (reverse l.old.items) ≡ map (restarted l.start) l.fn.old.items;
  later : Every (λ (s : ShardState). s.clock ≤ l.start) (reverse l.old.items);
  room : vec_len l.shards + vec_len l.old ≤ vec_capacity l.shards;
}

abbrev pub decreases-loop-shard : goal.decreases-loop-shard
decreases-loop-shard l = vec_len l.old
