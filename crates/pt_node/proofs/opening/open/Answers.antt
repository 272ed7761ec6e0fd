-- `open`: its clauses `accounted` and `seated`, and what its call of `make_whole` asks.
use Rattle.std.proofs.Common.{◌≡◌, length, map, rules, arith}
use Rattle.std.specs.Arc.{arc_value}
use Rattle.pt_signal.specs.Settings.{IsInRange}
use Rattle.pt_node.proofs.Fresh.{fresh_accounted, fresh_desks}
use Rattle.pt_node.proofs.SeatsOf.{fresh_seated}
use Rattle.pt_node.proofs.opening.open.Goals as goal

pub make_whole-requires-clause-accounted : goal.make_whole-requires-clause-accounted
make_whole-requires-clause-accounted c =
    let count : length c.in-Ok-open.pairs.items ≡ c.args.config.desks = omega (arith, c.in-Ok-open.ensures.count, c.in-Ok-open.pairs.ok.0) in
    fresh_accounted c.args.config c.in-Ok.shards.items c.in-Ok-open.pairs.items c.in-Ok.ensures count c.in-Ok-open.ensures.node c.in-Ok-open.ensures.new

pub make_whole-requires-clause-seated : goal.make_whole-requires-clause-seated
make_whole-requires-clause-seated c =
    fresh_seated c.args.config (map (λ p. (arc_value p.0, p.1)) c.in-Ok-fresh_seats.seats.items) c.in-Ok-fresh_seats.ensures c.in-Ok.shards.items c.in-Ok-fresh_tables.tables.items c.in-Ok.ensures
    c.in-Ok-fresh_tables.ensures

pub returns : goal.returns
returns c =
    let count : length c.in-Ok-open.pairs.items ≡ c.args.config.desks = omega (arith, c.in-Ok-open.ensures.count, c.in-Ok-open.pairs.ok.0) in
    let range : IsInRange c.args.config = search rules in (
      range,
      fresh_desks c.args.config c.in-Ok.shards.items c.in-Ok-open.pairs.items c.in-Ok.ensures count c.in-Ok-open.ensures.node c.in-Ok-open.ensures.new range
          c.make_whole.new.desks.items c.make_whole.ensures.pairs c.make_whole.ensures.shards
          (map (λ p. (arc_value p.0, p.1)) c.in-Ok-fresh_seats.seats.items) c.in-Ok-fresh_seats.ensures c.make_whole.ensures.seats,
    )
