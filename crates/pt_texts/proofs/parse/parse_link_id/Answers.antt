-- `parse_link_id`: its contract.
use Rattle.pt_texts.proofs.Parsed.{parsed}
use Rattle.pt_texts.proofs.Printed.{link_id_reads}
use Rattle.pt_texts.proofs.parse.parse_link_id.Goals as goal

pub returns : goal.returns
returns c = parsed _ _ _ _ link_id_reads tt c.args.text.now _ (c.finish.ensures _ c.link_id_at.ensures)
