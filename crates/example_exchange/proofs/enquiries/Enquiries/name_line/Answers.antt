-- `name_line`: its clause `goes_on`.
use Rattle.pt_desk.proofs.Turning.{goes_on_then}
use Rattle.example_exchange.proofs.enquiries.Enquiries.name_line.Goals as goal

pub returns-clause-goes_on : goal.returns-clause-goes_on
returns-clause-goes_on c =
    goes_on_then c.args.desk.now c.register-answer.new.desk c.reply.new.desk c.register-answer.ensures.goes_on c.reply.ensures.goes_on
