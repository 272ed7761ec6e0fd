-- `objection`: its clause `objects`.
use Rattle.std.proofs.Common.{◌∙◌, sym}
use Rattle.pt_auditor.proofs.Heard.{no_letters, above, may_not, of_no_node, may_hear}
use Rattle.pt_auditor.proofs.hearing.objection.Goals as goal

pub returns-in-Some-cause-clause-objects : goal.returns-in-Some-cause-clause-objects
returns-in-Some-cause-clause-objects c heard k =
    let h = c.args.hearing.now in
    let s = c.args.stamped in
    let none = no_letters heard h k c.if-hearing-gt0.false in
    may_not heard h k s c.in-Some-cause.cause c.contradiction-against.result none (above heard h k s c.sunk.result c.sunk.ensures c.in_default.is)
    (sym c.cause.ensures.is ∙ c.in-Some-cause.is)
    c.contradiction-against.ensures

pub returns-in-Some-strange-clause-objects : goal.returns-in-Some-strange-clause-objects
returns-in-Some-strange-clause-objects c heard k =
    let h = c.args.hearing.now in
    let s = c.args.stamped in
    of_no_node heard h k s c.in-Some-strange.why (no_letters heard h k c.if-hearing-gt0.false) (above heard h k s c.sunk.result c.sunk.ensures c.in_default.is)
    (sym c.in-Some-strange.is ∙ c.strange.ensures)

pub returns-in-None-strange-clause-objects : goal.returns-in-None-strange-clause-objects
returns-in-None-strange-clause-objects c heard k =
    let h = c.args.hearing.now in
    let s = c.args.stamped in
    may_hear heard h k s (no_letters heard h k c.if-hearing-gt0.false) (above heard h k s c.sunk.result c.sunk.ensures c.in_default.is)
    (sym c.cause.ensures.is ∙ c.in-None.is) (sym c.strange.ensures ∙ c.in-None-strange.is)
