-- `turns_are_told`: its contract.
use Rattle.pt_options.proofs.Asking.{turns_told}
use Rattle.pt_options.proofs.laws.turns_are_told.Goals as goal

pub returns : goal.returns
returns c = turns_told
