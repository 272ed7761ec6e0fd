-- `Ids::without`: its contract.
use Rattle.std.proofs.Common.{rules}
use Rattle.pt_signal.proofs.ids.Ids.without.Goals as goal

pub returns : goal.returns
returns c = search rules

pub returns-then-has : goal.returns-then-has
returns-then-has c = search rules
