-- A desk goes on: an empty journal over what the one so far left behind, and what it may forget of that.
use Rattle.std.specs.Prelude.{ℕ, []}
use Rattle.pt_events.specs.Leaving.{start_after}
use Rattle.pt_events.specs.Forgetting.{without_reasons}
use Rattle.pt_shard.specs.ShardState.{ShardState, past}

-- with its clock at n; the processes are as they were, and so is what waits and what was lost
abbrev pub restarted : ℕ → ShardState → ShardState
restarted n d = record {
  start = start_after d.start (past d);
  number = d.number;
  config = record d.config { start = n };
  clock = n;
  journal = [];
  outbox = d.outbox;
  hold = d.hold;
  vacant = d.vacant;
  keeps = d.keeps;
  lost = d.lost;
}

-- of those that ended before its journal no reason is known any more
abbrev pub forgetful : ShardState → ShardState
forgetful d = record d { start = without_reasons d.start }
