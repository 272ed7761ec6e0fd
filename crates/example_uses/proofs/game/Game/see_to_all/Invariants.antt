-- `Game::see_to_all`: what holds in its loop over `place`.
use Rattle.std.proofs.Common.{◌≡◌, Ok}
use Rattle.indexmap.specs.IndexMap.{keys}
use Rattle.pt_workers.specs.Desks.{IsStill}
use Rattle.example_uses.specs.Doing.{AtEach}
use Rattle.example_uses.specs.Games.{SeesToAt}
use Rattle.example_uses.proofs.game.Game.see_to_all.Given as goal

abbrev pub invariant-loop-place : goal.invariant-loop-place
invariant-loop-place l = record {
  does : AtEach SeesToAt l.place (l.initial.desk.shard, l.initial.self.health.entries) (Ok (tt {0})) (l.desk.shard, l.self.health.entries);
  monsters : keys l.self.health ≡ keys l.initial.self.health;
  still : IsStill l.initial.desk l.desk;
}
