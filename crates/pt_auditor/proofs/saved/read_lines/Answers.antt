-- `read_lines`: its loop.
use Rattle.std.proofs.Common.{sym, subst}
use Rattle.pt_auditor.specs.Saving.{IsDamaged}
use Rattle.pt_auditor.proofs.Reread.{misplaced_line, not_end, reading_more}
use Rattle.pt_auditor.proofs.saved.read_lines.Goals as goal

pub returns-in-Err-add : goal.returns-in-Err-add
returns-in-Err-add c =
    let text = c.args.text.now in
    let k = c.lines.invariant in
    let found = c.in-Ok.ensures.found in
    subst (IsDamaged text) (sym c.misplaced.ensures)
    (misplaced_line text c.lines.left.now c.lines.state c.lines.line k c.in-Ok.read.0 c.in-Ok.read.1.now c.in-Err-add.flaw found.0 found.1
    (not_end text c.lines.left.now c.lines.state c.lines.line k c.in-Ok.read.0 c.in_default.not-End) c.in-Err-add.ensures)

pub lines-preserved : goal.lines-preserved
lines-preserved c =
    let found = c.in-Ok.ensures.found in
    reading_more c.args.text.now c.lines.left.now c.lines.state c.lines.line c.lines.invariant c.in-Ok.read.0 c.in-Ok.read.1.now c.in-Ok-add.rest found.0 found.1 c.in-Ok-add.ensures _
    c.saturating_add-line.ensures
