-- `scripts_read_back`: its contract.
use Rattle.pt_script.proofs.ReadBackScripts.{read_back}
use Rattle.pt_script.proofs.laws.scripts_read_back.Goals as goal

pub returns : goal.returns
returns c = read_back
