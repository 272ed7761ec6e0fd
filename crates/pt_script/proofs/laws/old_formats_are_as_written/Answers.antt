-- `old_formats_are_as_written`: its contract.
use Rattle.pt_script.proofs.AsRun.{old_formats}
use Rattle.pt_script.proofs.laws.old_formats_are_as_written.Goals as goal

pub returns : goal.returns
returns c = old_formats
