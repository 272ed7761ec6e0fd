-- `parse_stamped`: its contract.
use Rattle.pt_texts.proofs.Parsed.{parsed}
use Rattle.pt_texts.proofs.Told.{stamped_reads}
use Rattle.pt_texts.proofs.parse.parse_stamped.Goals as goal

pub returns : goal.returns
returns c = parsed _ _ _ _ stamped_reads tt c.args.text.now _ (c.finish.ensures _ c.stamped_at.ensures)
