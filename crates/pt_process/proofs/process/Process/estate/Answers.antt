-- `Process::estate`: its contract.
use Rattle.std.proofs.Common.{rules}
use Rattle.pt_process.proofs.process.Process.estate.Goals as goal

pub returns : goal.returns
returns c = search rules
