-- `wrong_modes_are_refused`: its contract.
use Rattle.pt_options.proofs.Asking.{modes_refused}
use Rattle.pt_options.proofs.laws.wrong_modes_are_refused.Goals as goal

pub returns : goal.returns
returns c = modes_refused
