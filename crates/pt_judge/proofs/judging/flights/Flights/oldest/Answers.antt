-- `Flights::oldest`: its contract.
use Rattle.std.proofs.Common.{Some, ap, ◌∙◌}
use Rattle.std.specs.List.{find}
use Rattle.std.specs.Option.{option_map}
use Rattle.pt_signal.specs.Process.{Sent}
use Rattle.pt_events.specs.History.{is_between}
use Rattle.pt_judge.proofs.Filed.{found_oldest, found_none}
use Rattle.pt_judge.proofs.judging.flights.Flights.oldest.Goals as goal

pub returns-in-Some-get : goal.returns-in-Some-get
returns-in-Some-get c =
    let s = c.self.inside in
    ap (λ x. Some x) c.signal.ensures
    ∙ ap (option_map (λ (f : Sent). f.signal))
    (c.in-Some-get.ensures.value
    ∙ found_oldest s.letters.entries s.queues s.next c.self.invariant c.args.from c.args.to c.in-Some.number c.in-Some.ensures
    ∙ ap (find (is_between c.args.from c.args.to)) c.self.view_is)

pub returns-in-None-get : goal.returns-in-None-get
returns-in-None-get c =
    let s = c.self.inside in
    ap (option_map (λ (f : Sent). f.signal))
    (c.in-None-get.ensures.value
    ∙ found_oldest s.letters.entries s.queues s.next c.self.invariant c.args.from c.args.to c.in-Some.number c.in-Some.ensures
    ∙ ap (find (is_between c.args.from c.args.to)) c.self.view_is)

pub returns-in-None : goal.returns-in-None
returns-in-None c =
    let s = c.self.inside in
    ap (option_map (λ (f : Sent). f.signal))
    (found_none s.letters.entries s.queues s.next c.self.invariant c.args.from c.args.to c.in-None.ensures ∙ ap (find (is_between c.args.from c.args.to)) c.self.view_is)
