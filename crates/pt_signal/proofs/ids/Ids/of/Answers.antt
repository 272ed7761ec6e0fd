-- `Ids::of`: its contract.
use Rattle.std.proofs.Common.{rules}
use Rattle.pt_signal.proofs.ids.Ids.of.Goals as goal

pub returns : goal.returns
returns c = search rules
