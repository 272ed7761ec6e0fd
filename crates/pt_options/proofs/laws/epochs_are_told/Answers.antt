-- `epochs_are_told`: its contract.
use Rattle.pt_options.proofs.Asking.{epochs_told}
use Rattle.pt_options.proofs.laws.epochs_are_told.Goals as goal

pub returns : goal.returns
returns c = epochs_told
