-- `all_lanes`: its loop over `d`.
use Rattle.std.proofs.Common.{arith}
use Rattle.std.proofs.lemmas.List.{map_push, length-map}
use Rattle.pt_carrier.specs.Node.{lists}
use Rattle.pt_carrier.proofs.Making.{AreLanes-more}
use Rattle.pt_carrier.proofs.opening.all_lanes.Goals as goal

pub loop-d-preserved : goal.loop-d-preserved
loop-d-preserved c =
    let made = c.in_ok-lanes_from.ensures in
    let row = c.in_ok-lanes_from.field-0 in
    let count = length-map c.lanes_from.new.columns.items (λ v. v.items) in
    rw (c.in_ok-push.ensures.items, map_push)
    (AreLanes-more c.loop-d.d c.args.desks c.args.capacity (lists c.loop-d.rows.items) (lists c.loop-d.columns.items) (lists c.lanes_from.new.columns.items) row.items
    c.loop-d.invariant
    (omega (arith, row.ok.0, made.desks.0))
    made.row
    (omega (arith, count, c.lanes_from.new.columns.ok.0, made.desks.1))
    made.columns)
