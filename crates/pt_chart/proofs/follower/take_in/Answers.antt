-- `take_in`: its clause `reply`.
use Rattle.pt_chart.proofs.Answering.{back_is}
use Rattle.pt_chart.proofs.follower.take_in.Goals as goal

pub returns-in-Asked-clause-reply : goal.returns-in-Asked-clause-reply
returns-in-Asked-clause-reply c =
    let a = rw c.in-Asked.is at c.in_ok-reason.ensures in
    (back_is c.args.process.now.me c.args.from c.args.signal c.args.process.now.state c.in-Asked.question a.2.1, a.2.0)
