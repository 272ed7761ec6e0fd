-- `explaining_takes_no_value`: its contract.
use Rattle.pt_options.proofs.Asking.{explaining_alone}
use Rattle.pt_options.proofs.laws.explaining_takes_no_value.Goals as goal

pub returns : goal.returns
returns c = explaining_alone
