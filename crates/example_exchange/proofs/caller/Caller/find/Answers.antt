-- `find`: its clause `goes_on`.
use Rattle.pt_desk.proofs.Turning.{goes_on_then}
use Rattle.example_exchange.proofs.caller.Caller.find.Goals as goal

pub returns-clause-goes_on : goal.returns-clause-goes_on
returns-clause-goes_on c =
    goes_on_then c.args.desk.now c.report.new.desk c.ask_found.new.desk c.report.ensures.goes_on c.ask_found.ensures.goes_on
