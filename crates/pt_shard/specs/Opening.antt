-- A desk on which nothing has happened.
use Rattle.std.specs.Prelude.{ℕ, false, [], replicate, Some, None}
use Rattle.pt_signal.specs.declared.config.Config.{Config}
use Rattle.pt_shard.specs.ShardState.{ShardState}

-- the first birth has the first version of slot 0
abbrev pub fresh_shard : Config → ℕ → ShardState
fresh_shard c number = record {
  start = [];
  number = number;
  config = c;
  clock = c.start;
  journal = [];
  outbox = replicate c.desks [];
  hold = None;
  vacant = Some (record { shard = number; slot = 0; version = 1 });
  keeps = false;
  lost = [];
}
