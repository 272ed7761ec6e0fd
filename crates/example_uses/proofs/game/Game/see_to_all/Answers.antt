-- `Game::see_to_all`: its clause `does`, and its loop over `place`.
use Rattle.std.proofs.Common.{◌≡◌, length, Ok, Err, refl, ◌∙◌, rules, arith}
use Rattle.indexmap.specs.IndexMap.{set_value_at}
use Rattle.indexmap.proofs.CallerLemmas.{keys-with_value_at}
use Rattle.pt_shard.specs.ShardState.{ShardState}
use Rattle.example_uses.specs.Games.{Monsters, SeesToAt}
use Rattle.example_uses.proofs.Calling.{seen_at}
use Rattle.example_uses.proofs.Doings.{at_none, at_next, refused_at}
use Rattle.example_uses.proofs.game.Game.see_to_all.Goals as goal

pub loop-place-init : goal.loop-place-init
loop-place-init c = record { does = at_none SeesToAt (c.args.desk.now.shard, c.args.self.now.health.entries); monsters = refl; still = search rules }

pub loop-place-preserved : goal.loop-place-preserved
loop-place-preserved c =
    let old : ShardState × Monsters = (c.loop-place.desk.shard, c.loop-place.self.health.entries) in
    record {
      does =
          at_next SeesToAt c.loop-place.place (c.args.desk.now.shard, c.args.self.now.health.entries) old (c.see_to.new.desk.shard, set_value_at c.loop-place.self.health.entries c.loop-place.place c.see_to.new.health) (Ok (tt {0}))
          c.loop-place.invariant.does
          (seen_at c.loop-place.place old (c.pair_mut-health.result.0.now, c.pair_mut-health.result.1.now) (Ok (tt {0})) c.see_to.new.desk.shard c.see_to.new.health c.pair_mut-health.ensures.value c.in_ok-see_to.ensures.does);
      monsters = keys-with_value_at c.loop-place.self.health c.loop-place.place c.see_to.new.health ∙ c.loop-place.invariant.monsters;
      still = search rules;
    }

pub returns-in_err-see_to-clause-does : goal.returns-in_err-see_to-clause-does
returns-in_err-see_to-clause-does c =
    let e : c.from_residual.result ≡ Err c.in_err-see_to.field-0.0 = search rules in
    let old : ShardState × Monsters = (c.loop-place.desk.shard, c.loop-place.self.health.entries) in
    let fault = c.in_err-see_to.field-0.0 in
    rw e
    (refused_at SeesToAt (length c.args.self.now.health.entries) c.loop-place.place (c.args.desk.now.shard, c.args.self.now.health.entries) old (c.see_to.new.desk.shard, set_value_at c.loop-place.self.health.entries c.loop-place.place c.see_to.new.health) fault
    (omega (arith, c.len-place-end.ensures.len, c.loop-place-test.true)) c.loop-place.invariant.does
    (seen_at c.loop-place.place old (c.pair_mut-health.result.0.now, c.pair_mut-health.result.1.now) (Err fault) c.see_to.new.desk.shard c.see_to.new.health c.pair_mut-health.ensures.value c.in_err-see_to.ensures.does))
