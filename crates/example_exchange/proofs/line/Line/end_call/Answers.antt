-- `end_call`: its clause `goes_on`.
use Rattle.pt_desk.proofs.Turning.{goes_on_then}
use Rattle.example_exchange.proofs.line.Line.end_call.Goals as goal

pub returns-clause-goes_on : goal.returns-clause-goes_on
returns-clause-goes_on c =
    goes_on_then c.args.desk.now c.demonitor.new.desk c.be_free.new.desk c.demonitor.ensures.goes_on c.be_free.ensures.goes_on
