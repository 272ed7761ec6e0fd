-- `headline_holds`: its contract.
use Rattle.pt_laws.proofs.lanes.Heading.{headline}
use Rattle.pt_laws.proofs.laws.headline_holds.Goals as goal

pub returns : goal.returns
returns c = headline
