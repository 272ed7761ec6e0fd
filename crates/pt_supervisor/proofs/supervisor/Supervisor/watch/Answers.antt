-- `Supervisor::watch`: its clause `goes_on`.
use Rattle.pt_desk.proofs.Turning.{goes_on_then}
use Rattle.pt_supervisor.proofs.supervisor.Supervisor.watch.Goals as goal

pub returns-in-Ok-clause-goes_on : goal.returns-in-Ok-clause-goes_on
returns-in-Ok-clause-goes_on g c = goes_on_then c.args.desk.now c.monitor.new.desk c.tell.new.desk c.monitor.ensures.goes_on c.tell.ensures.goes_on
