-- `drop_link`: its contract.
use Rattle.std.proofs.Common.{rules}
use Rattle.pt_shard.proofs.acts.drop_link.Goals as goal

pub returns : goal.returns
returns c = search rules
