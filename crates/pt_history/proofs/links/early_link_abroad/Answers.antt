-- `early_link_abroad`: its contract.
use Rattle.pt_history.proofs.EarlyLinks.{early_link_abroad}
use Rattle.pt_history.proofs.links.early_link_abroad.Goals as goal

pub returns : goal.returns
returns c = early_link_abroad
