-- `make_whole`: what holds in its loop over `outs`.
use Rattle.std.proofs.Common.{◌≡◌, ◌+◌, ◌≤◌, ◌++◌, map, reverse, vec_len}
use Rattle.std.specs.Arc.{arc_value}
use Rattle.std.specs.Vec.{vec_capacity}
use Rattle.pt_workers.specs.Desks.{AreAccounted, all_ends, all_shards}
use Rattle.pt_node.specs.Seating.{AreSeated, all_seats, all_tables}
use Rattle.pt_node.proofs.making.make_whole.Given as goal

abbrev pub invariant-loop-outs : goal.invariant-loop-outs
invariant-loop-outs l = record {
  pairs : all_ends l.desks.items ++ reverse l.pairs.items ≡ l.fn.pairs.items;
  shards : all_shards l.desks.items ++ reverse l.shards.items ≡ l.fn.shards.items;
  seats : all_seats l.desks.items ++ map (λ p. (arc_value p.0, p.1)) (reverse l.seats.items) ≡ map (λ p. (arc_value p.0, p.1)) l.fn.seats.items;
  tables : all_tables l.desks.items ++ reverse l.tables.items ≡ l.fn.tables.items;
  seated : AreSeated (reverse l.shards.items) (map (λ p. (arc_value p.0, p.1)) (reverse l.seats.items)) (reverse l.tables.items);
  as_many : (vec_len l.shards ≡ vec_len l.pairs) × (vec_len l.seats ≡ vec_len l.pairs) × (vec_len l.tables ≡ vec_len l.pairs);
  accounted : AreAccounted (reverse l.shards.items) (reverse l.pairs.items);
  room : vec_len l.desks + vec_len l.shards ≤ vec_capacity l.desks;
}

abbrev pub decreases-loop-outs : goal.decreases-loop-outs
decreases-loop-outs l = vec_len l.pairs
