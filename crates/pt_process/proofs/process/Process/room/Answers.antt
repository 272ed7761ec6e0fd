-- `Process::room`: its clause `ok`.
use Rattle.std.proofs.Common.{rules}
use Rattle.pt_process.proofs.process.Process.room.Goals as goal

pub returns-clause-ok : goal.returns-clause-ok
returns-clause-ok c = search rules
