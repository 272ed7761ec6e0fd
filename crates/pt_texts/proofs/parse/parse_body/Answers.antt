-- `parse_body`: its contract.
use Rattle.std.proofs.Common.{refl}
use Rattle.pt_texts.proofs.Parsed.{parsed}
use Rattle.pt_texts.proofs.Printed.{body_reads}
use Rattle.pt_texts.proofs.parse.parse_body.Goals as goal

pub returns : goal.returns
returns c = parsed _ _ _ _ body_reads (tt, refl) c.args.text.now _ (c.finish.ensures _ c.body_at.ensures)
