-- `parse_ref`: its contract.
use Rattle.pt_texts.proofs.Parsed.{parsed}
use Rattle.pt_texts.proofs.Printed.{ref_reads}
use Rattle.pt_texts.proofs.parse.parse_ref.Goals as goal

pub returns : goal.returns
returns c = parsed _ _ _ _ ref_reads tt c.args.text.now _ (c.finish.ensures _ c.ref_at.ensures)
