-- `prints_are_told`: its contract.
use Rattle.pt_options.proofs.Asking.{prints_told}
use Rattle.pt_options.proofs.laws.prints_are_told.Goals as goal

pub returns : goal.returns
returns c = prints_told
