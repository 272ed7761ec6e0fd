-- `quiet_links`: its contract.
use Rattle.pt_laws.proofs.linking.Agreed.{links_agree}
use Rattle.pt_laws.proofs.links.quiet_links.Goals as goal

pub returns : goal.returns
returns c past p q legal quiet free apart lives = links_agree past legal quiet free p q apart lives
