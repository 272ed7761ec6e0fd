-- `Shard::pids`: what holds in its loop over `slot`.
use Rattle.std.proofs.Common.{◌≡◌}
use Rattle.std.specs.List.{filter_map, range_with_len}
use Rattle.pt_shard.specs.Living.{living_in}
use Rattle.pt_shard.proofs.shard.Shard.pids.Given as goal

abbrev pub invariant-loop-slot : goal.invariant-loop-slot
invariant-loop-slot l = l.pids.items ≡ filter_map (living_in l.self) (range_with_len 0 l.slot)
