-- `Shard::keep_losses`: its clause `fit`, and the invariant of `self`.
use Rattle.std.proofs.Common.{sym, subst}
use Rattle.pt_shard.specs.Whole.{parts_of, IsWhole}
use Rattle.pt_shard.proofs.Standing.{kept_whole}
use Rattle.pt_shard.proofs.shard.Shard.keep_losses.Goals as goal

whole : (c : goal.After-keep_losses) → IsWhole (parts_of c.self.inside.config c.keep_losses.new.self.book c.self.inside.processes)
whole c =
    let i = c.self.inside in
    subst (λ b. IsWhole (parts_of i.config b i.processes)) (sym c.keep_losses.ensures)
    (kept_whole (parts_of i.config i.ledger.book i.processes) c.self.invariant c.args.on i.ledger.book.lost)

pub invariant_of-self : goal.invariant_of-self
invariant_of-self c = whole c

pub returns-clause-fit : goal.returns-clause-fit
returns-clause-fit c = (whole c).sound.fit
