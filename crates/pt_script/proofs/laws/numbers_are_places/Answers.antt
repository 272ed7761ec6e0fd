-- `numbers_are_places`: its contract.
use Rattle.pt_script.proofs.Numbering.{numbers_are_places}
use Rattle.pt_script.proofs.laws.numbers_are_places.Goals as goal

pub returns : goal.returns
returns c = numbers_are_places
