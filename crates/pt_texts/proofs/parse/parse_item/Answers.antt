-- `parse_item`: its contract.
use Rattle.std.proofs.Common.{refl}
use Rattle.pt_texts.proofs.Parsed.{parsed}
use Rattle.pt_texts.proofs.Printed.{item_reads}
use Rattle.pt_texts.proofs.parse.parse_item.Goals as goal

pub returns : goal.returns
returns c = parsed _ _ _ _ item_reads (tt, refl) c.args.text.now _ (c.finish.ensures _ c.item_at.ensures)
