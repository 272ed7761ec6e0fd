-- `open_monitor`: its contract.
use Rattle.std.proofs.Common.{rules}
use Rattle.pt_shard.proofs.acts.open_monitor.Goals as goal

pub returns : goal.returns
returns c = search rules
