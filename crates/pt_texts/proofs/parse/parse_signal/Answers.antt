-- `parse_signal`: its contract.
use Rattle.std.proofs.Common.{refl}
use Rattle.pt_texts.proofs.Parsed.{parsed}
use Rattle.pt_texts.proofs.Printed.{signal_reads}
use Rattle.pt_texts.proofs.parse.parse_signal.Goals as goal

pub returns : goal.returns
returns c = parsed _ _ _ _ signal_reads (tt, refl) c.args.text.now _ (c.finish.ensures _ c.signal_at.ensures)
