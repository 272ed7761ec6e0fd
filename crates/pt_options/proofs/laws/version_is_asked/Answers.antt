-- `version_is_asked`: its contract.
use Rattle.pt_options.proofs.Asking.{version_asked}
use Rattle.pt_options.proofs.laws.version_is_asked.Goals as goal

pub returns : goal.returns
returns c = version_asked
