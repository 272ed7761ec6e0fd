-- `peers_are_linked_since`: its contract.
use Rattle.pt_history.proofs.Peers.{peers_since}
use Rattle.pt_history.proofs.laws.peers_are_linked_since.Goals as goal

pub returns : goal.returns
returns c start past p ok = peers_since start ok p past
