-- `turn_each`: what holds in its loop over `d`.
use Rattle.std.proofs.Common.{◌≡◌, length}
use Rattle.pt_workers.specs.Desks.{AreDesks}
use Rattle.pt_node.specs.Node.{TurnsAll}
use Rattle.pt_node.proofs.node.turn_each.Given as goal

abbrev pub invariant-loop-d : goal.invariant-loop-d
invariant-loop-d l = record {
  count : length l.desks.items ≡ length l.initial.desks.items;
  turns : TurnsAll l.budget l.d l.initial.desks.items l.round l.desks.items;
  node : AreDesks l.initial.desks.items → AreDesks l.desks.items;
}
