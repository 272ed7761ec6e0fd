-- `Process::holds_any`: its contract.
use Rattle.std.proofs.Common.{rules}
use Rattle.pt_process.proofs.process.Process.holds_any.Goals as goal

pub returns-in-Some : goal.returns-in-Some
returns-in-Some c = search rules
