-- `tell`: its clause `does`.
use Rattle.std.proofs.Common.{Some, sym, subst, ◌∙◌, w64}
use Rattle.std.specs.Prelude.{ℤ}
use Rattle.std.proofs.lemmas.Int.{to_z-of_z}
use Rattle.pt_events.specs.declared.event.Event.TheVariants.{Said}
use Rattle.pt_shard.specs.ShardState.{lives}
use Rattle.pt_shard.specs.Calls.{Calls}
use Rattle.pt_desk.specs.Reaching.{Reaches}
use Rattle.example_uses.specs.Telling.{plain_message}
use Rattle.example_uses.proofs.Calling.{says, says_nothing}
use Rattle.example_uses.proofs.steps.tell.Goals as goal

pub returns-then-not-knows-clause-does : goal.returns-then-not-knows-clause-does
returns-then-not-knows-clause-does c = says_nothing c.args.from c.args.to (plain_message c.args.kind c.args.num) c.args.desk.now.shard (sym c.knows.ensures ∙ c.if-not-knows.true)

pub returns-clause-does : goal.returns-clause-does
returns-clause-does c =
    let old = c.args.desk.now in
    let reaches = subst (λ (n : ℤ). Reaches (lives old.shard c.args.from) c.args.from c.args.to (Calls c.args.from (Some (Said c.args.from c.args.to (plain_message c.args.kind n))) (tt {0}) old.shard c.send.result c.send.new.self.shard) old c.send.result c.send.new.self) (to_z-of_z w64 c.args.num c.ranges.num) c.send.ensures.does in
    says c.args.from c.args.to (plain_message c.args.kind c.args.num) old c.send.new.self c.send.result c.unheard.result
    (sym c.knows.ensures ∙ c.if-not-knows.false) reaches c.unheard.ensures
