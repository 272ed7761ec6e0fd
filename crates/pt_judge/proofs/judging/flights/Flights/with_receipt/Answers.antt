-- `Flights::with_receipt`: its contract.
use Rattle.std.proofs.Common.{◌++◌, ◌∙◌, ap, append_assoc}
use Rattle.pt_judge.specs.Judging.{answered, owed}
use Rattle.pt_judge.proofs.judging.flights.Flights.with_receipt.Goals as goal

pub returns : goal.returns
returns c =
    let ends = owed c.args.lives.now c.args.me in
    c.in_ok-with_end.ensures ∙ ap (λ z. z ++ ends) c.in_ok-flights.ensures ∙ append_assoc c.args.self (answered c.args.me c.args.from c.args.signal) ends
