-- `what_is_lost`: its contract.
use Rattle.pt_shard.proofs.Losing.{are_losses}
use Rattle.pt_shard.proofs.laws.what_is_lost.Goals as goal

pub returns : goal.returns
returns c = are_losses
