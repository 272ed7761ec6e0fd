-- `lines_are_short`: its contract.
use Rattle.std.proofs.Common.{refl}
use Rattle.pt_auditor.proofs.Lengths.{stamped_length, left_over_length}
use Rattle.pt_auditor.proofs.laws.lines_are_short.Goals as goal

pub returns : goal.returns
returns c = (refl, stamped_length, left_over_length)
