-- `modes_are_told`: its contract.
use Rattle.pt_options.proofs.Asking.{modes_told}
use Rattle.pt_options.proofs.laws.modes_are_told.Goals as goal

pub returns : goal.returns
returns c = modes_told
