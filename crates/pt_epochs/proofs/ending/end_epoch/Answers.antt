-- `end_epoch`: its contract.
use Rattle.pt_epochs.proofs.Stages.{ended_as}
use Rattle.pt_epochs.proofs.ending.end_epoch.Goals as goal

pub returns-in-Ok : goal.returns-in-Ok
returns-in-Ok g c =
    ended_as g.S.Sink.takes g.S.Sink.refuses c.args.node c.in-Ok.gathered c.args.crews.now.items c.args.sink.now c.settle_over.result c.settle_over.new.crews.items c.settle_over.new.sink c.in-Ok.ensures.gathers c.settle_over.ensures
