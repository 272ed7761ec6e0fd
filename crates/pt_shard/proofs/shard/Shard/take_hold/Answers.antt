-- `Shard::take_hold`: its clause `fit`, and the invariant of `self`.
use Rattle.std.proofs.Common.{None, sym, subst}
use Rattle.pt_shard.specs.Whole.{parts_of, IsWhole}
use Rattle.pt_shard.proofs.Standing.{moved_whole}
use Rattle.pt_shard.proofs.shard.Shard.take_hold.Goals as goal

whole : (c : goal.After-take_hold) → IsWhole (parts_of c.self.inside.config c.take_hold.new.self.book c.self.inside.processes)
whole c =
    let i = c.self.inside in
    subst (λ b. IsWhole (parts_of i.config b i.processes)) (sym c.take_hold.ensures.rest)
    (moved_whole (parts_of i.config i.ledger.book i.processes) c.self.invariant i.ledger.book.outbox None c.self.invariant.sound.fit.boxes c.self.invariant.sound.fit.boxed tt)

pub invariant_of-self : goal.invariant_of-self
invariant_of-self c = whole c

pub returns-clause-fit : goal.returns-clause-fit
returns-clause-fit c = (whole c).sound.fit
