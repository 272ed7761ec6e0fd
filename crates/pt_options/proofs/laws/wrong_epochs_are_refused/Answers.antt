-- `wrong_epochs_are_refused`: its contract.
use Rattle.pt_options.proofs.Asking.{epochs_refused}
use Rattle.pt_options.proofs.laws.wrong_epochs_are_refused.Goals as goal

pub returns : goal.returns
returns c = epochs_refused
