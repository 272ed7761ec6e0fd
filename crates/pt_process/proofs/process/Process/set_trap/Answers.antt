-- `Process::set_trap`: its clause `after`.
use Rattle.std.proofs.Common.{rules}
use Rattle.pt_process.proofs.process.Process.set_trap.Goals as goal

pub returns-clause-after : goal.returns-clause-after
returns-clause-after c = search rules
