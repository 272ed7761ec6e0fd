-- `parse_left_over`: its contract.
use Rattle.pt_texts.proofs.Parsed.{parsed}
use Rattle.pt_texts.proofs.Told.{left_over_reads}
use Rattle.pt_texts.proofs.parse.parse_left_over.Goals as goal

pub returns : goal.returns
returns c = parsed _ _ _ _ left_over_reads tt c.args.text.now _ (c.finish.ensures _ c.left_over_at.ensures)
