-- `parse_ids`: its contract.
use Rattle.pt_texts.proofs.Parsed.{parsed}
use Rattle.pt_texts.proofs.Printed.{ids_reads}
use Rattle.pt_texts.proofs.parse.parse_ids.Goals as goal

pub returns : goal.returns
returns c = parsed _ _ _ _ ids_reads tt c.args.text.now _ (c.finish.ensures _ c.ids_at.ensures)
