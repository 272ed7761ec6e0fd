-- `Audit::end`: its contract.
use Rattle.std.proofs.Common.{[], ◌∙◌, refl, sym, subst, append-nil, inl}
use Rattle.pt_auditor.specs.Reading.{without_return, OneMore, IsFault}
use Rattle.pt_auditor.proofs.Read.{nothing, line_over, faulty, why_is, concluded, concluded_open}
use Rattle.pt_auditor.proofs.audit.Audit.end.Goals as goal

pub returns-then-open-eq0 : goal.returns-then-open-eq0
returns-then-open-eq0 c text heard r =
    let s = c.args.self in
    concluded text heard s.hearing s.line.items s.lines r c.conclude.result (sym c.as_slice-open.ensures.value ∙ nothing _ c.if-open-eq0.true)
    (c.conclude.ensures heard r.heard)

pub returns-in-Ok : goal.returns-in-Ok
returns-in-Ok c text heard r =
    let s = c.args.self in
    let one = c.in-Ok.ensures heard r.heard in
    let over =
    line_over text heard s.hearing s.line.items s.lines r one.0 c.in-Ok.hearing [] c.one_more.result
    (subst (λ z. OneMore heard (without_return z) one.0) c.as_slice-open.ensures.value one.1)
    one.2 refl c.one_more.ensures
    in
    concluded_open text one.0 c.in-Ok.hearing c.one_more.result over c.conclude-in-Ok.result (c.conclude-in-Ok.ensures one.0 one.2)

pub returns : goal.returns
returns c text heard r =
    let s = c.args.self in
    inl
    (faulty text heard s.hearing s.line.items s.lines r text [] _ (sym (append-nil text)) c.one_more-in-Err.ensures
    (why_is heard s.line.items [] c.in-Err.why tt
    (subst (λ z. IsFault heard (without_return z) c.in-Err.why) c.as_slice-open.ensures.value (c.in-Err.ensures heard r.heard))))
