-- `Flights::with`: its contract, and the invariant of `result`.
use Rattle.std.proofs.Common.{◌∷◌, [], ◌++◌, refl, ap, ◌∙◌}
use Rattle.pt_signal.specs.Process.{sent}
use Rattle.pt_judge.proofs.Filed.{with_values, with_filed}
use Rattle.pt_judge.proofs.judging.flights.Flights.with.Goals as goal

pub invariant_of-result : goal.invariant_of-result
invariant_of-result c =
    let s = c.self.inside in
    with_filed s.letters.entries s.queues s.next c.self.invariant c.args.from c.args.to c.args.signal c.insert.new.self.entries c.in_ok-insert.ensures.entries c.push.new.self _
    refl c.in_ok-push.ensures

pub returns : goal.returns
returns c =
    let s = c.self.inside in
    with_values s.letters.entries s.queues s.next c.self.invariant c.args.from c.args.to c.args.signal c.insert.new.self.entries c.in_ok-insert.ensures.entries
    ∙ ap (λ z. z ++ sent c.args.from c.args.to c.args.signal ∷ []) c.self.view_is
