-- `PidOrd::cmp`: its contract.
use Rattle.std.proofs.Common.{rules}
use Rattle.pt_signal.proofs.pid.PidOrd.cmp.Goals as goal

pub returns : goal.returns
returns c = search rules
