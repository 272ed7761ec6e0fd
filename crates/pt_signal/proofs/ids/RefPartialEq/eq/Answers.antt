-- `RefPartialEq::eq`: its contract.
use Rattle.std.proofs.Common.{rules}
use Rattle.pt_signal.proofs.ids.RefPartialEq.eq.Goals as goal

pub returns-then-self-other : goal.returns-then-self-other
returns-then-self-other c = search rules

pub returns-else-self-other : goal.returns-else-self-other
returns-else-self-other c = search rules
