-- `Process::me`: its contract.
use Rattle.std.proofs.Common.{rules}
use Rattle.pt_process.proofs.process.Process.me.Goals as goal

pub returns : goal.returns
returns c = search rules
