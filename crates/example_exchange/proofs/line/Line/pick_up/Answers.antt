-- `pick_up`: its clause `goes_on`.
use Rattle.pt_desk.proofs.Turning.{goes_on_then}
use Rattle.example_exchange.proofs.line.Line.pick_up.Goals as goal

pub returns-clause-goes_on : goal.returns-clause-goes_on
returns-clause-goes_on c =
    goes_on_then c.args.desk.now c.report.new.desk c.connect-state.new.desk c.report.ensures.goes_on c.connect-state.ensures.goes_on
