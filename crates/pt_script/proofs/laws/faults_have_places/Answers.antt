-- `faults_have_places`: its contract.
use Rattle.pt_script.proofs.AsRun.{faults_have_places}
use Rattle.pt_script.proofs.laws.faults_have_places.Goals as goal

pub returns : goal.returns
returns c = faults_have_places
