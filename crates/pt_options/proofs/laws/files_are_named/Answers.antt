-- `files_are_named`: its contract.
use Rattle.pt_options.proofs.Asking.{file_named}
use Rattle.pt_options.proofs.laws.files_are_named.Goals as goal

pub returns : goal.returns
returns c = file_named
