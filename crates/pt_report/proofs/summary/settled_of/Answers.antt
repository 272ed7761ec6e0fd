-- `settled_of`: its clauses `totalled` and `fault`.
use Rattle.std.proofs.Common.{◌-◌, ◌^◌, ◌∙◌, ap, sym, subst, zero-add, rules}
use Rattle.std.specs.Prelude.{min}
use Rattle.pt_report.specs.Reports.{IsOfSummary}
use Rattle.pt_report.proofs.Faults.{stopped_of_summary}
use Rattle.pt_report.proofs.summary.settled_of.Goals as goal

pub returns-clause-totalled : goal.returns-clause-totalled
returns-clause-totalled c = record {
  settles = c.in-Ok.ensures.runs.settles;
  quiet = c.in-Ok.ensures.nothing_left;
  events = c.count_events-events.ensures;
  left_over = search rules;
  came = c.handled-settled.ensures ∙ c.in-Ok.ensures.runs.counts ∙ ap (λ n. min n (2 ^ 64 - 1)) (zero-add _);
}

pub returns-in-Err-clause-fault : goal.returns-in-Err-clause-fault
returns-in-Err-clause-fault c =
    let unsettled = c.in-Err.unsettled in
    subst (IsOfSummary c.args.gathered) (sym c.from.ensures) (stopped_of_summary c.args.gathered unsettled.gathered unsettled.fault c.in-Err.ensures.refused_order)
