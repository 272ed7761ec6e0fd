-- `finish`: its clause `goes_on`.
use Rattle.pt_desk.proofs.Turning.{goes_on_then}
use Rattle.example_scenes.proofs.jobs.finish.Goals as goal

pub returns-clause-goes_on : goal.returns-clause-goes_on
returns-clause-goes_on c =
    goes_on_then c.args.desk.now c.demonitor.new.desk c.reply.new.desk c.demonitor.ensures.goes_on c.reply.ensures.goes_on
