-- `resume_over`: its contract.
use Rattle.pt_epochs.proofs.Stages.{resumed_as}
use Rattle.pt_epochs.proofs.ending.resume_over.Goals as goal

pub returns-in-Ok : goal.returns-in-Ok
returns-in-Ok g c = resumed_as c.args.settled c.in-Ok.node c.args.crews.now.items c.begin_over.result c.begin_over.new.crews.items c.in-Ok.ensures.resumes c.begin_over.ensures
