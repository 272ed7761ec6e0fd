-- `Process::cut_ids`: its clause `state`.
use Rattle.std.proofs.Common.{rules}
use Rattle.pt_process.proofs.process.Process.cut_ids.Goals as goal

pub returns-in-None-clause-state : goal.returns-in-None-clause-state
returns-in-None-clause-state c = search rules
