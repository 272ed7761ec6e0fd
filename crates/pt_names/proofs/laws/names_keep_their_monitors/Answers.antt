-- `names_keep_their_monitors`: its contract.
use Rattle.pt_names.proofs.Naming.{keep_monitors}
use Rattle.pt_names.proofs.laws.names_keep_their_monitors.Goals as goal

pub returns : goal.returns
returns c = keep_monitors
