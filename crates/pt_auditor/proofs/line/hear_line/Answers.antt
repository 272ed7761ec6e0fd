-- `hear_line`: its contract.
use Rattle.std.proofs.Common.{sym, ◌∙◌}
use Rattle.pt_auditor.proofs.Read.{heard_event, heard_letter}
use Rattle.pt_auditor.proofs.line.hear_line.Goals as goal

pub returns-in-Ok-hear : goal.returns-in-Ok-hear
returns-in-Ok-hear c heard k =
    let found = c.in-Ok.ensures.found in
    heard_event heard _ c.in-Ok.stamped c.in-Ok-hear.hearing (sym c.bare-line.ensures ∙ found.0) found.1 (c.in-Ok-hear.ensures heard k)

pub returns-in-Ok-tell : goal.returns-in-Ok-tell
returns-in-Ok-tell c heard k =
    let found = c.in-Ok-parse_left_over.ensures.found in
    heard_letter heard _ c.in-Ok-parse_left_over.left c.in-Ok-tell.hearing (sym c.bare-line.ensures ∙ found.0) found.1 (c.in-Ok-tell.ensures heard k)
