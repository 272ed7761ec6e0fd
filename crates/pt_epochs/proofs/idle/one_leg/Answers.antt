-- `one_leg`: its contract.
use Rattle.std.proofs.Common.{◌≡◌, Err, rules, sym, subst}
use Rattle.pt_epochs.specs.Idle.{InTurns, RunsLeg}
use Rattle.pt_epochs.proofs.Legs.{leg_done, leg_refused}
use Rattle.pt_epochs.proofs.idle.one_leg.Goals as goal

pub returns : goal.returns
returns g c =
    let rests = c.turn_until_still.ensures in
    leg_done (InTurns g.B.Behaviour.answers (g.D.Drive.lets c.args.drive.now) c.args.budget) c.args.budget c.args.turns c.args.node.now c.args.crews.now.items c.drive.new.node c.drive.new.crews.items c.turn_until_still.result c.turn_until_still.new.self
    c.in_ok-drive.ensures rests.rounds rests.goes_on rests.still rests.stopped

pub returns-in_err-drive : goal.returns-in_err-drive
returns-in_err-drive g c =
    let e : c.from_residual.result ≡ Err c.in_err-drive.field-0.0 = search rules in
    let runs = InTurns g.B.Behaviour.answers (g.D.Drive.lets c.args.drive.now) c.args.budget in
    subst (λ r. RunsLeg runs c.args.budget c.args.turns (record { desks = c.args.node.now; works = c.args.crews.now.items }) r (record { desks = c.drive.new.node; works = c.drive.new.crews.items })) (sym e)
    (leg_refused runs c.args.budget c.args.turns c.args.node.now c.args.crews.now.items c.in_err-drive.field-0.0 c.drive.new.node c.drive.new.crews.items c.in_err-drive.ensures c.requires)
