-- `Mailbox::passed_over`: its clause `under`.
use Rattle.std.proofs.Common.{◌-◌, subst, arith}
use Rattle.pt_process.specs.Marks.{AreUnder}
use Rattle.pt_process.proofs.MarkLemmas.{AreUnder-fewer, AreUnder-weaker}
use Rattle.pt_process.proofs.mailbox.Mailbox.passed_over.Goals as goal

pub returns-then-number-self-clause-under : goal.returns-then-number-self-clause-under
returns-then-number-self-clause-under c =
    let n = c.args.number in
    subst (AreUnder n (c.len.result - c.self.inside.head)) c.self.view_is
    (AreUnder-fewer n _ _ _ (omega arith) (AreUnder-weaker _ n _ _ (omega (arith, c.if-number-self.true)) c.self.invariant.1.highest))

pub returns-clause-under : goal.returns-clause-under
returns-clause-under c =
    let n = c.args.number in
    subst (AreUnder n c.min.result) c.self.view_is
    (AreUnder-fewer n _ _ _ (omega (arith, c.min.ensures, c.saturating_sub.ensures)) (AreUnder-weaker _ n _ _ (omega (arith, c.if-number-self-2.false)) c.self.invariant.1.lower))
