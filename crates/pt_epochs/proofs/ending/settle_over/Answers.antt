-- `settle_over`: its contract.
use Rattle.pt_epochs.proofs.Stages.{settled_as}
use Rattle.pt_epochs.proofs.ending.settle_over.Goals as goal

pub returns-in-Ok : goal.returns-in-Ok
returns-in-Ok g c =
    let settled = c.in-Ok.ensures in
    settled_as g.S.Sink.takes g.S.Sink.refuses c.args.gathered c.desks-desks.ensures.gathered c.in-Ok.settled c.args.crews.now.items c.args.sink.now c.hand_over.result c.hand_over.new.crews.items c.hand_over.new.sink c.desks-settled.ensures.gathered settled.runs.settles settled.nothing_left
    (λ none. (settled.again none).0) c.hand_over.ensures
