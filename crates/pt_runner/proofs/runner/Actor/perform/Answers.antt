-- `Actor::perform`: its clause `goes_on`.
use Rattle.pt_desk.proofs.Turning.{goes_on_then}
use Rattle.pt_runner.proofs.runner.Actor.perform.Goals as goal

pub returns-clause-goes_on : goal.returns-clause-goes_on
returns-clause-goes_on c = goes_on_then c.args.desk.now c.call-progress.new.desk c.conclude.new.desk c.call-progress.ensures.goes_on c.conclude.ensures.goes_on
