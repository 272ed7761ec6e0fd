-- `parse_letter`: its contract.
use Rattle.pt_texts.proofs.Parsed.{parsed}
use Rattle.pt_texts.proofs.Printed.{letter_reads}
use Rattle.pt_texts.proofs.parse.parse_letter.Goals as goal

pub returns : goal.returns
returns c = parsed _ _ _ _ letter_reads tt c.args.text.now _ (c.finish.ensures _ c.letter_at.ensures)
