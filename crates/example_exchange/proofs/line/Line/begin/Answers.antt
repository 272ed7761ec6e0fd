-- `begin`: its clause `goes_on`.
use Rattle.pt_desk.proofs.Turning.{goes_on_then}
use Rattle.example_exchange.proofs.line.Line.begin.Goals as goal

pub returns-clause-goes_on : goal.returns-clause-goes_on
returns-clause-goes_on c =
    goes_on_then c.args.desk.now c.report.new.desk c.ask_for_name.new.desk c.report.ensures.goes_on c.ask_for_name.ensures.goes_on
