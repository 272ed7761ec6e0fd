-- `untils_are_told`: its contract.
use Rattle.pt_options.proofs.Asking.{untils_told}
use Rattle.pt_options.proofs.laws.untils_are_told.Goals as goal

pub returns : goal.returns
returns c = untils_told
