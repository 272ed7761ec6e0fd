-- `parse_reason`: its contract.
use Rattle.pt_texts.proofs.Parsed.{parsed}
use Rattle.pt_texts.proofs.Printed.{reason_reads}
use Rattle.pt_texts.proofs.parse.parse_reason.Goals as goal

pub returns : goal.returns
returns c = parsed _ _ _ _ reason_reads tt c.args.text.now _ (c.finish.ensures _ c.reason_at.ensures)
