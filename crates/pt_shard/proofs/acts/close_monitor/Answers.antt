-- `close_monitor`: its contract.
use Rattle.std.proofs.Common.{rules}
use Rattle.pt_shard.proofs.acts.close_monitor.Goals as goal

pub returns-in_default : goal.returns-in_default
returns-in_default c = search rules
