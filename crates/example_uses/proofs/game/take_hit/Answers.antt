-- `take_hit`: its clause `does`.
use mir.Val.{SFits}
use Rattle.std.proofs.Common.{inr, ℤ, w64, rules, refl, ap, ◌∙◌}
use Rattle.std.proofs.lemmas.Int.{to_z-of_z}
use Rattle.example_uses.specs.Games.{hit_by}
use Rattle.example_uses.proofs.game.take_hit.Goals as goal

pub returns-clause-does : goal.returns-clause-does
returns-clause-does c =
    let fits : SFits w64 c.hit_by.result = search rules in
    let fitted : SFits w64 c.args.health.now = search rules in
    inr (
      c.in_ok-hit.hit,
      (c.receive.new.self.shard, c.args.health.now),
      (c.in_ok-hit.ensures.does, refl),
      (search rules, ap (λ (h : ℤ). (c.receive.new.self.shard, h)) (to_z-of_z w64 c.hit_by.result fits ∙ c.hit_by.ensures ∙ ap (λ (h : ℤ). hit_by c.in_ok-hit.hit h) (to_z-of_z w64 c.args.health.now fitted))),
    )
