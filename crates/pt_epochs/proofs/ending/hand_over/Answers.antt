-- `hand_over`: its contract.
use Rattle.pt_epochs.proofs.Stages.{handed_as}
use Rattle.pt_epochs.proofs.ending.hand_over.Goals as goal

pub returns-in-Ok : goal.returns-in-Ok
returns-in-Ok g c =
    let handed = c.in-Ok.ensures in
    handed_as g.S.Sink.takes g.S.Sink.refuses c.args.settled c.args.crews.now.items c.args.sink.now c.resume_over.result c.resume_over.new.crews.items c.hand.new.sink handed.0 c.desks-desks.ensures.gathered handed.1 handed.2 c.resume_over.ensures
