-- `turn_each`: what holds in its loop over `d`.
use Rattle.std.proofs.Common.{◌≡◌, length}
use Rattle.pt_workers.specs.Desks.{AreDesks}
use Rattle.pt_workers.specs.Stillness.{TurnEach}
use Rattle.pt_workers.proofs.stillness.turn_each.Given as goal

abbrev pub invariant-loop-d : goal.invariant-loop-d
invariant-loop-d l = record {
  count : length l.desks.items ≡ length l.initial.desks.items;
  turns : TurnEach l.budget l.d l.initial.desks.items l.did l.desks.items;
  node : AreDesks l.desks.items;
}
