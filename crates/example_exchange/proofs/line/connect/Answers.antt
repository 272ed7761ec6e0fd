-- `connect`: its clause `goes_on`.
use Rattle.pt_desk.proofs.Turning.{goes_on_then}
use Rattle.example_exchange.proofs.line.connect.Goals as goal

pub returns-clause-goes_on : goal.returns-clause-goes_on
returns-clause-goes_on c =
    goes_on_then c.args.desk.now c.monitor.new.desk c.reply.new.desk c.monitor.ensures.goes_on c.reply.ensures.goes_on
