-- `leaves_each`: its contract.
use Rattle.pt_events.proofs.Leaving as leaving
use Rattle.pt_shard.proofs.laws.leaves_each.Goals as goal

pub returns : goal.returns
returns c = leaving.leaves_each
