-- `hang_up`: its clause `goes_on`.
use Rattle.pt_desk.proofs.Turning.{goes_on_then}
use Rattle.example_exchange.proofs.caller.Caller.hang_up.Goals as goal

pub returns-clause-goes_on : goal.returns-clause-goes_on
returns-clause-goes_on c =
    goes_on_then c.args.desk.now c.say.new.desk c.end.new.desk c.say.ensures.goes_on c.end.ensures.goes_on
