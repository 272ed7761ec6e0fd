-- `Ins::next_from`: its clause `some`.
use Rattle.std.proofs.Common.{rules}
use Rattle.pt_carrier.proofs.ends.Ins.next_from.Goals as goal

pub returns-in-Some-clause-some : goal.returns-in-Some-clause-some
returns-in-Some-clause-some c = search rules
