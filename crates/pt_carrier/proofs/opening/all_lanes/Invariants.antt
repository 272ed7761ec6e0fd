-- `all_lanes`: what holds in its loop over `d`.
use Rattle.pt_carrier.specs.Node.{lists}
use Rattle.pt_carrier.specs.Opening.{AreLanes}
use Rattle.pt_carrier.proofs.opening.all_lanes.Given as goal

abbrev pub invariant-loop-d : goal.invariant-loop-d
invariant-loop-d l = AreLanes l.d l.desks l.capacity (lists l.rows.items) (lists l.columns.items)
