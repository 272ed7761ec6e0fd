-- `early_link_unknown`: its contract.
use Rattle.pt_history.proofs.EarlyLinks.{early_link_unknown}
use Rattle.pt_history.proofs.links.early_link_unknown.Goals as goal

pub returns : goal.returns
returns c = early_link_unknown
