-- `explaining_is_told`: its contract.
use Rattle.pt_options.proofs.Asking.{explaining_told}
use Rattle.pt_options.proofs.laws.explaining_is_told.Goals as goal

pub returns : goal.returns
returns c = explaining_told
