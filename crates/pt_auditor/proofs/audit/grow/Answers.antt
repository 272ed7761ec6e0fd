-- `grow`: its contract.
use Rattle.std.proofs.Common.{length, sym, ap, ◌∙◌}
use Rattle.pt_auditor.proofs.Read.{pushed_items}
use Rattle.pt_auditor.proofs.audit.grow.Goals as goal

pub returns-then-open-eq-MOST_LINE : goal.returns-then-open-eq-MOST_LINE
returns-then-open-eq-MOST_LINE c = sym (ap length c.as_slice-open.ensures.value) ∙ c.if-open-eq-MOST_LINE.true

pub returns : goal.returns
returns c = c.push.ensures.items ∙ pushed_items c.push.result _ _ (sym c.is_err.ensures.value ∙ c.if-is_err.false)
