-- `items_of`: its contract.
use Rattle.std.proofs.Common.{ap, ◌∙◌, map}
use Rattle.serde_json.specs.View.{view}
use Rattle.pt_script.proofs.FindingFacts.{items_given, none_given}
use Rattle.pt_script.proofs.explanation.scope.items_of.Goals as goal

pub returns-in-Some : goal.returns-in-Some
returns-in-Some c = ap (map view) c.as_slice.ensures.value ∙ items_given _ c.in-Some.items c.in-Some.ensures

pub returns-in-None : goal.returns-in-None
returns-in-None c = none_given _ c.in-None.ensures
