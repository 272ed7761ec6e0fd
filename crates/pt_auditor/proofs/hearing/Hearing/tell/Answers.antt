-- `Hearing::tell`: its contract.
use Rattle.pt_auditor.proofs.Heard.{one_letter, other_letter, comes_next, comes_not}
use Rattle.pt_auditor.proofs.hearing.Hearing.tell.Goals as goal

pub returns-in-Some : goal.returns-in-Some
returns-in-Some c heard k =
    let l = c.args.left.letter in
    other_letter heard c.args.self k c.args.left c.oldest.result (c.if-left-from.false, c.if-left-to.false)
    (comes_not c.args.self.state l.from l.to l.signal c.cause.result c.in-Some.field-0 c.cause.ensures.is c.in-Some.is)
    c.oldest.ensures

pub returns-in-None : goal.returns-in-None
returns-in-None c heard k =
    let l = c.args.left.letter in
    one_letter heard c.args.self k c.args.left c.without.result (c.if-left-from.false, c.if-left-to.false)
    (comes_next c.args.self.state l.from l.to l.signal c.cause.result c.cause.ensures.is c.in-None.is)
    c.without.ensures
