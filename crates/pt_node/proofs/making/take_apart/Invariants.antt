-- `take_apart`: what holds in its loop over `desk`.
use Rattle.std.proofs.Common.{◌≡◌, ◌+◌, ◌≤◌, ◌++◌, map, reverse, vec_len}
use Rattle.std.specs.Arc.{arc_value}
use Rattle.std.specs.Vec.{vec_capacity}
use Rattle.pt_workers.specs.Desks.{all_ends, all_shards}
use Rattle.pt_node.specs.Seating.{all_seats, all_tables}
use Rattle.pt_node.proofs.making.take_apart.Given as goal

abbrev pub invariant-loop-desk : goal.invariant-loop-desk
invariant-loop-desk l = record {
  pairs : l.pairs.items ++ all_ends (reverse l.desks.items) ≡ all_ends l.fn.desks.items;
  shards : l.shards.items ++ all_shards (reverse l.desks.items) ≡ all_shards l.fn.desks.items;
  capacity : vec_capacity l.desks ≡ vec_capacity l.fn.desks;
  pair_room : vec_len l.pairs + vec_len l.desks ≤ vec_capacity l.pairs;
  seats : map (λ p. (arc_value p.0, p.1)) l.seats.items ++ all_seats (reverse l.desks.items) ≡ all_seats l.fn.desks.items;
  seat_room : vec_len l.seats + vec_len l.desks ≤ vec_capacity l.seats;
  tables : l.tables.items ++ all_tables (reverse l.desks.items) ≡ all_tables l.fn.desks.items;
  table_room : vec_len l.tables + vec_len l.desks ≤ vec_capacity l.tables;
  shard_room : vec_len l.shards + vec_len l.desks ≤ vec_capacity l.shards;
}

abbrev pub decreases-loop-desk : goal.decreases-loop-desk
decreases-loop-desk l = vec_len l.desks
