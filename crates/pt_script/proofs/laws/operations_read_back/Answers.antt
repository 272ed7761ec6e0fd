-- `operations_read_back`: its contract.
use Rattle.pt_script.proofs.Writing.{back}
use Rattle.pt_script.proofs.laws.operations_read_back.Goals as goal

pub returns : goal.returns
returns c = back
