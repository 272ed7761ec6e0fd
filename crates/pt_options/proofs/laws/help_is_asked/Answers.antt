-- `help_is_asked`: its contract.
use Rattle.pt_options.proofs.Asking.{help_asked}
use Rattle.pt_options.proofs.laws.help_is_asked.Goals as goal

pub returns : goal.returns
returns c = help_asked
