-- `accepted_scripts_read_back`: its contract.
use Rattle.pt_script.proofs.SeesScripts.{accepted_back}
use Rattle.pt_script.proofs.laws.accepted_scripts_read_back.Goals as goal

pub returns : goal.returns
returns c = accepted_back
