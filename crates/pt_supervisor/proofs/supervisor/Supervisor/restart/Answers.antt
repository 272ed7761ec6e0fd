-- `Supervisor::restart`: the invariant of `self`.
use Rattle.std.proofs.Common.{arith}
use Rattle.pt_supervisor.proofs.supervisor.Supervisor.restart.Goals as goal

pub invariant_of-self : goal.invariant_of-self
invariant_of-self g c = record { all = λ r is. absurd (omega (arith, c.requires, c.args.self.now.all r is)) }
