-- `reason`: its contract.
use Rattle.std.proofs.Common.{◌∙◌, ap}
use Rattle.pt_events.specs.History.{reason_of, phase_or_unborn}
use Rattle.pt_judge.proofs.Lives.{found_some, found_none}
use Rattle.pt_judge.proofs.judging.lives.reason.Goals as goal

pub returns-in-Some : goal.returns-in-Some
returns-in-Some c =
    c.reason.ensures ∙ ap (λ o. reason_of (phase_or_unborn o)) (found_some c.found.result c.in-Some.life c.args.lives.now c.args.pid c.in-Some.is c.found.ensures)

pub returns-in-None : goal.returns-in-None
returns-in-None c = ap (λ o. reason_of (phase_or_unborn o)) (found_none c.found.result c.args.lives.now c.args.pid c.in-None.is c.found.ensures)
