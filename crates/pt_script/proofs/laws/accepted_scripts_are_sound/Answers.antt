-- `accepted_scripts_are_sound`: its contract.
use Rattle.pt_script.proofs.AsRun.{accepted_sound}
use Rattle.pt_script.proofs.laws.accepted_scripts_are_sound.Goals as goal

pub returns : goal.returns
returns c = accepted_sound
