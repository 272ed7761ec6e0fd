-- `reasons_are_read_as_printed`: its contract.
use Rattle.pt_script.proofs.ReasonFacts.{reasons_as_printed}
use Rattle.pt_script.proofs.laws.reasons_are_read_as_printed.Goals as goal

pub returns : goal.returns
returns c = reasons_as_printed
