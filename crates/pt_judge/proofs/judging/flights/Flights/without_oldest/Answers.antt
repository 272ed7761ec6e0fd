-- `Flights::without_oldest`: its contract, and the invariant of `result`.
use Rattle.std.proofs.Common.{sym, ap, ◌∙◌, subst₂}
use Rattle.std.specs.Map.{values_of}
use Rattle.pt_signal.specs.Values.{without_first}
use Rattle.pt_events.specs.History.{is_between}
use Rattle.pt_judge.specs.Filing.{AreFiled}
use Rattle.pt_judge.proofs.Filed.{without_values, without_filed, without_none}
use Rattle.pt_judge.proofs.judging.flights.Flights.without_oldest.Goals as goal
use Rattle.pt_judge.proofs.judging.flights.Flights.without_oldest.Goals.{in-Some, in_default}

pub invariant_of-result : goal.invariant_of-result
invariant_of-result c =
    let s = c.self.inside in
    elim c.match-first.branch [
      | in-Some w ↦
          subst₂ (λ l q. AreFiled l.entries q s.next) (sym w.letters-is) (sym w.queues-is)
          (without_filed s.letters.entries s.queues s.next c.self.invariant c.args.from c.args.to w.in-Some.number w.in-Some.ensures w.remove.new.self.entries w.remove.ensures.entries w.pop.new.self w.pop.ensures)
      | in_default w ↦ subst₂ (λ l q. AreFiled l.entries q s.next) (sym w.letters-is) (sym w.queues-is) c.self.invariant
    ]

pub returns : goal.returns
returns c =
    let s = c.self.inside in
    let view = ap (without_first (is_between c.args.from c.args.to)) c.self.view_is in
    elim c.match-first.branch [
      | in-Some w ↦
          ap (λ l. values_of l.entries) w.letters-is
          ∙ without_values s.letters.entries s.queues s.next c.self.invariant c.args.from c.args.to w.in-Some.number w.in-Some.ensures w.remove.new.self.entries w.remove.ensures.entries
          ∙ view
      | in_default w ↦ ap (λ l. values_of l.entries) w.letters-is ∙ without_none s.letters.entries s.queues s.next c.self.invariant c.args.from c.args.to w.in_default.ensures ∙ view
    ]
