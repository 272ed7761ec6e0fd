-- `Shard::put_hold`: its clause `fit`, and the invariant of `self`.
use Rattle.std.proofs.Common.{◌<◌, Some, sym, ap, ◌∙◌, subst}
use Rattle.pt_shard.specs.ShardState.{ShardState}
use Rattle.pt_shard.specs.Whole.{parts_of, IsWhole}
use Rattle.pt_shard.proofs.Standing.{moved_whole}
use Rattle.pt_shard.proofs.shard.Shard.put_hold.Goals as goal

whole : (c : goal.After-put_hold) → IsWhole (parts_of c.self.inside.config c.put_hold.new.self.book c.self.inside.processes)
whole c =
    let i = c.self.inside in
    let near = subst (λ (d : ShardState). c.args.letter.from.shard < d.config.desks) (sym c.self.view_is) c.requires.near in
    subst (λ b. IsWhole (parts_of i.config b i.processes)) (sym c.put_hold.ensures)
    (moved_whole (parts_of i.config i.ledger.book i.processes) c.self.invariant i.ledger.book.outbox (Some c.args.letter) c.self.invariant.sound.fit.boxes c.self.invariant.sound.fit.boxed
    (c.requires.here ∙ sym (ap (λ (d : ShardState). d.number) c.self.view_is), near))

pub invariant_of-self : goal.invariant_of-self
invariant_of-self c = whole c

pub returns-clause-fit : goal.returns-clause-fit
returns-clause-fit c = (whole c).sound.fit
