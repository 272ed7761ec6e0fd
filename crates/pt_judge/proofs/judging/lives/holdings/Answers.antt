-- `holdings`: its contract.
use Rattle.std.proofs.Common.{◌∙◌, ap, Some}
use Rattle.std.specs.Option.{option_map}
use Rattle.pt_events.specs.History.{state_of}
use Rattle.pt_judge.proofs.Lives.{found_some, found_none}
use Rattle.pt_judge.proofs.judging.lives.holdings.Goals as goal

pub returns-in-Some : goal.returns-in-Some
returns-in-Some c =
    ap (λ s. Some s) c.holdings.ensures ∙ ap (option_map state_of) (found_some c.found.result c.in-Some.life c.args.lives.now c.args.pid c.in-Some.is c.found.ensures)

pub returns-in-None : goal.returns-in-None
returns-in-None c = ap (option_map state_of) (found_none c.found.result c.args.lives.now c.args.pid c.in-None.is c.found.ensures)
