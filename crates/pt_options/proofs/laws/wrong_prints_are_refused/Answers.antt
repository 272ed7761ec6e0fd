-- `wrong_prints_are_refused`: its contract.
use Rattle.pt_options.proofs.Asking.{prints_refused}
use Rattle.pt_options.proofs.laws.wrong_prints_are_refused.Goals as goal

pub returns : goal.returns
returns c = prints_refused
