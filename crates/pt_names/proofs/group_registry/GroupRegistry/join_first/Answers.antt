-- `GroupRegistry::join_first`: its clause `goes_on` where the process is monitored.
use Rattle.pt_desk.proofs.Turning.{goes_on_then}
use Rattle.pt_names.proofs.group_registry.GroupRegistry.join_first.Goals as goal

pub returns-in-Ok-clause-goes_on : goal.returns-in-Ok-clause-goes_on
returns-in-Ok-clause-goes_on c =
    goes_on_then c.args.desk.now c.monitor.new.desk c.keep.new.desk c.monitor.ensures.goes_on c.keep.ensures.goes_on
