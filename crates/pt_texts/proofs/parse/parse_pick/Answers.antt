-- `parse_pick`: its contract.
use Rattle.pt_texts.proofs.Parsed.{parsed}
use Rattle.pt_texts.proofs.Printed.{pick_reads}
use Rattle.pt_texts.proofs.parse.parse_pick.Goals as goal

pub returns : goal.returns
returns c = parsed _ _ _ _ pick_reads tt c.args.text.now _ (c.finish.ensures _ c.pick_at.ensures)
