-- `target_of`: its contract.
use Rattle.std.proofs.Common.{◌∙◌, ap, sym}
use Rattle.std.specs.Option.{option_map}
use Rattle.pt_signal.specs.Values.{same_ref}
use Rattle.pt_judge.proofs.FirstPlaces.{lookup_first}
use Rattle.pt_judge.proofs.judging.links.target_of.Goals as goal

pub returns-in-Some : goal.returns-in-Some
returns-in-Some c = ap (option_map (λ e. e.1)) (sym c.in-Some.is ∙ c.find.ensures) ∙ lookup_first (same_ref c.args.monitor) c.args.watching.now

pub returns-in-None : goal.returns-in-None
returns-in-None c = ap (option_map (λ e. e.1)) (sym c.in-None.is ∙ c.find.ensures) ∙ lookup_first (same_ref c.args.monitor) c.args.watching.now
