-- `take_hits`: what holds in its loop over `turn`.
use Rattle.std.proofs.Common.{◌-◌, ℤ, Result}
use Rattle.pt_shard.specs.declared.fault.Fault.{Fault}
use Rattle.pt_shard.specs.ShardState.{ShardState}
use Rattle.pt_workers.specs.Desks.{IsStill}
use Rattle.example_uses.specs.Doing.{Repeats}
use Rattle.example_uses.specs.Games.{TakesHit}
use Rattle.example_uses.proofs.game.take_hits.Given as goal

abbrev pub invariant-loop-turn : goal.invariant-loop-turn
invariant-loop-turn l = record {
  does : (r : Result (Unit {0}) Fault) (new : ShardState × ℤ) → Repeats (TakesHit l.me) (l.budget - l._turn) (l.desk.shard, l.health) r new → Repeats (TakesHit l.me) l.budget (l.initial.desk.shard, l.initial.health) r new;
  still : IsStill l.initial.desk l.desk;
}
