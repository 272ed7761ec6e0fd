-- `leads`: its contract.
use Rattle.std.proofs.Common.{rules}
use Rattle.pt_judge.proofs.merging.leads.Goals as goal

pub returns-then-one-other-2 : goal.returns-then-one-other-2
returns-then-one-other-2 c = search rules
