-- `set_flag`: its contract.
use Rattle.std.proofs.Common.{rules}
use Rattle.pt_shard.proofs.acts.set_flag.Goals as goal

pub returns : goal.returns
returns c = search rules
