-- `Ins::take`: its clause `collects`.
use Rattle.std.proofs.Common.{rules}
use Rattle.pt_carrier.proofs.ends.Ins.take.Goals as goal

pub returns-clause-collects : goal.returns-clause-collects
returns-clause-collects c = search rules
