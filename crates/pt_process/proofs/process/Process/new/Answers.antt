-- `Process::new`: its clause `state`.
use Rattle.std.proofs.Common.{rules}
use Rattle.pt_process.proofs.process.Process.new.Goals as goal

pub returns-clause-state : goal.returns-clause-state
returns-clause-state c = search rules
