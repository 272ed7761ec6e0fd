-- `Audit::rest`: its contract.
use Rattle.std.proofs.Common.{◌∙◌, sym, ap, length}
use Rattle.pt_auditor.proofs.Read.{nothing, rests_text}
use Rattle.pt_auditor.proofs.audit.Audit.rest.Goals as goal

pub returns-then-open-eq0 : goal.returns-then-open-eq0
returns-then-open-eq0 c text heard r =
    let s = c.args.self in
    rests_text text heard s.hearing s.line.items s.lines r (sym c.as_slice-open.ensures.value ∙ nothing _ c.if-open-eq0.true) c.rest.result (c.rest.ensures heard r.heard)

pub returns : goal.returns
returns c text heard r e = c.if-open-eq0.false (ap length (c.as_slice-open.ensures.value ∙ e))
