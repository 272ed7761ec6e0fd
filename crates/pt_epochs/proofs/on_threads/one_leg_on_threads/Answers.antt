-- `one_leg_on_threads`: its contract.
use Rattle.std.proofs.Common.{◌≡◌, Err, rules, sym, subst}
use Rattle.pt_epochs.specs.Driving.{lets_short}
use Rattle.pt_epochs.specs.Idle.{InTurns, RunsLeg}
use Rattle.pt_epochs.proofs.Legs.{leg_done, leg_refused}
use Rattle.pt_epochs.proofs.on_threads.one_leg_on_threads.Goals as goal

pub returns : goal.returns
returns g c =
    let rests = c.turn_until_still.ensures in
    leg_done (InTurns g.B.Behaviour.answers (lets_short c.args.plan.events) c.args.plan.budget) c.args.plan.budget c.args.turns c.args.node.now c.args.crews.now.items c.run_crews.new.node c.run_crews.new.crews.items c.turn_until_still.result c.turn_until_still.new.self
    c.in_ok-run_crews.ensures rests.rounds rests.goes_on rests.still rests.stopped

pub returns-in_err-run_crews : goal.returns-in_err-run_crews
returns-in_err-run_crews g c =
    let e : c.from_residual.result ≡ Err c.in_err-run_crews.field-0.0 = search rules in
    let runs = InTurns g.B.Behaviour.answers (lets_short c.args.plan.events) c.args.plan.budget in
    subst (λ r. RunsLeg runs c.args.plan.budget c.args.turns (record { desks = c.args.node.now; works = c.args.crews.now.items }) r (record { desks = c.run_crews.new.node; works = c.run_crews.new.crews.items })) (sym e)
    (leg_refused runs c.args.plan.budget c.args.turns c.args.node.now c.args.crews.now.items c.in_err-run_crews.field-0.0 c.run_crews.new.node c.run_crews.new.crews.items c.in_err-run_crews.ensures c.requires)
