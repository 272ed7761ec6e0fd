-- `wrong_untils_are_refused`: its contract.
use Rattle.pt_options.proofs.Asking.{untils_refused}
use Rattle.pt_options.proofs.laws.wrong_untils_are_refused.Goals as goal

pub returns : goal.returns
returns c = untils_refused
