-- `known_born_free`: its contract.
use Rattle.pt_laws.proofs.linking.Agreed.{born_free}
use Rattle.pt_laws.proofs.links.known_born_free.Goals as goal

pub returns : goal.returns
returns c = born_free
