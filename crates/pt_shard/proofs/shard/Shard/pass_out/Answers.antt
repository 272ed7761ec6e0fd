-- `Shard::pass_out`: its clause `fit`, and the invariant of `self`.
use Rattle.std.proofs.Common.{sym, subst}
use Rattle.pt_shard.specs.Whole.{parts_of, IsWhole}
use Rattle.pt_shard.proofs.Standing.{moved_whole, less, less_boxes, less_boxed}
use Rattle.pt_shard.proofs.shard.Shard.pass_out.Goals as goal

whole : (c : goal.After-pass_out) → IsWhole (parts_of c.self.inside.config c.pass_out.new.self.book c.self.inside.processes)
whole c =
    let i = c.self.inside in
    let a = parts_of i.config i.ledger.book i.processes in
    subst (λ b. IsWhole (parts_of i.config b i.processes)) (sym c.pass_out.ensures)
    (moved_whole a c.self.invariant (less a c.self.invariant c.args.to c.args.count) i.ledger.book.hold (less_boxes a c.self.invariant c.args.to c.args.count) (less_boxed a c.self.invariant c.args.to c.args.count) c.self.invariant.sound.fit.held)

pub invariant_of-self : goal.invariant_of-self
invariant_of-self c = whole c

pub returns-clause-fit : goal.returns-clause-fit
returns-clause-fit c = (whole c).sound.fit
