-- `Ids::and`: its contract.
use Rattle.std.proofs.Common.{rules}
use Rattle.pt_signal.proofs.ids.Ids.and.Goals as goal

pub returns-in-Some : goal.returns-in-Some
returns-in-Some c = search rules
