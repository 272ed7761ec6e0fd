-- `Process::add_link`: its clause `state`.
use Rattle.std.proofs.Common.{rules}
use Rattle.pt_process.proofs.process.Process.add_link.Goals as goal

pub returns-in-Some-clause-state : goal.returns-in-Some-clause-state
returns-in-Some-clause-state c = search rules
