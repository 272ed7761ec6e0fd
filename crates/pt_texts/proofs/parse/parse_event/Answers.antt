-- `parse_event`: its contract.
use Rattle.pt_texts.proofs.Parsed.{parsed}
use Rattle.pt_texts.proofs.Told.{event_reads}
use Rattle.pt_texts.proofs.parse.parse_event.Goals as goal

pub returns : goal.returns
returns c = parsed _ _ _ _ event_reads tt c.args.text.now _ (c.finish.ensures _ c.event_at.ensures)
