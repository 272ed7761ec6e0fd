-- `Shard::next_loss`: its clause `fit`, and the invariant of `self`.
use Rattle.std.proofs.Common.{drop, sym, subst}
use Rattle.pt_shard.specs.Whole.{parts_of, IsWhole}
use Rattle.pt_shard.proofs.Standing.{kept_whole}
use Rattle.pt_shard.proofs.shard.Shard.next_loss.Goals as goal

whole : (c : goal.After-next_loss) → IsWhole (parts_of c.self.inside.config c.next_loss.new.self.book c.self.inside.processes)
whole c =
    let i = c.self.inside in
    subst (λ b. IsWhole (parts_of i.config b i.processes)) (sym c.next_loss.ensures.rest)
    (kept_whole (parts_of i.config i.ledger.book i.processes) c.self.invariant i.ledger.book.keeps (drop 1 i.ledger.book.lost))

pub invariant_of-self : goal.invariant_of-self
invariant_of-self c = whole c

pub returns-clause-fit : goal.returns-clause-fit
returns-clause-fit c = (whole c).sound.fit
