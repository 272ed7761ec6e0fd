-- `names_are_places`: its contract.
use Rattle.pt_script.proofs.Numbering.{names_are_places}
use Rattle.pt_script.proofs.laws.names_are_places.Goals as goal

pub returns : goal.returns
returns c = names_are_places
