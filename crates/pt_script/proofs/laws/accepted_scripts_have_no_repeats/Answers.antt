-- `accepted_scripts_have_no_repeats`: its contract.
use Rattle.pt_script.proofs.NoRepeats.{accepted_has_none}
use Rattle.pt_script.proofs.laws.accepted_scripts_have_no_repeats.Goals as goal

pub returns : goal.returns
returns c = accepted_has_none
