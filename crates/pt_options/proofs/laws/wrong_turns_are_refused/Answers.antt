-- `wrong_turns_are_refused`: its contract.
use Rattle.pt_options.proofs.Asking.{turns_refused}
use Rattle.pt_options.proofs.laws.wrong_turns_are_refused.Goals as goal

pub returns : goal.returns
returns c = turns_refused
