-- `parse_pid`: its contract.
use Rattle.pt_texts.proofs.Parsed.{parsed}
use Rattle.pt_texts.proofs.Printed.{pid_reads}
use Rattle.pt_texts.proofs.parse.parse_pid.Goals as goal

pub returns : goal.returns
returns c = parsed _ _ _ _ pid_reads tt c.args.text.now _ (c.finish.ensures _ c.pid_at.ensures)
