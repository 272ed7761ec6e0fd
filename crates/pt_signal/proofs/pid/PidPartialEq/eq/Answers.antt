-- `PidPartialEq::eq`: its contract.
use Rattle.std.proofs.Common.{rules}
use Rattle.pt_signal.proofs.pid.PidPartialEq.eq.Goals as goal

pub returns-then-self-other-2 : goal.returns-then-self-other-2
returns-then-self-other-2 c = search rules

pub returns-else-self-other-2 : goal.returns-else-self-other-2
returns-else-self-other-2 c = search rules
