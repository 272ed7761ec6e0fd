-- `Mailbox::take_at`: that the mark stays true.
use Rattle.std.proofs.Common.{length, ap, arith, length-drop}
use Rattle.pt_process.proofs.MarkLemmas.{IsMarked-removed, IsMarked-closed}
use Rattle.pt_process.proofs.mailbox.Mailbox.take_at.Goals as goal

pub invariant_of-self : goal.invariant_of-self
invariant_of-self c =
    let removed = c.remove_at.ensures in
    let closed = c.close_gap.ensures in
    let head = c.remove_at.new.head in (
      omega (arith, closed.closed),
      IsMarked-closed _ _ _ _ _ closed.waiting (λ some. omega (arith, closed.closed, closed.mark (omega (arith, some, length-drop head c.remove_at.new.items.items))))
          (IsMarked-removed _ _ c.args.place _ _ _ (omega (arith, c.requires, ap length c.self.view_is)) removed.waiting removed.mark c.self.invariant.1),
    )

pub invariant_of-self-else-self-len : goal.invariant_of-self-else-self-len
invariant_of-self-else-self-len c =
    let removed = c.remove_at.ensures in (
      omega (arith, c.if-self-len.false, c.len.ensures, c.remove_at.new.items.ok.0),
      IsMarked-removed _ _ c.args.place _ _ _ (omega (arith, c.requires, ap length c.self.view_is)) removed.waiting removed.mark c.self.invariant.1,
    )
