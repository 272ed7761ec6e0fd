-- `pass_epoch`: its clauses `passes` and `fault`.
use Rattle.std.proofs.Common.{◌≡◌, Err, rules}
use Rattle.pt_report.specs.Epochs.{IsOfEpoch}
use Rattle.pt_report.proofs.Passing.{of_end}
use Rattle.pt_report.proofs.epochs.pass_epoch.Goals as goal

pub returns-clause-passes : goal.returns-clause-passes
returns-clause-passes g c = record {
  ran = (c.run_epoch.new.node, c.run_epoch.new.runners.items);
  runs = c.in_ok-run_epoch.ensures.runs;
  ends = c.in_ok-ended.ensures.ends;
  again = c.begin_again.ensures;
}

pub returns-in_err-ended-clause-fault : goal.returns-in_err-ended-clause-fault
returns-in_err-ended-clause-fault g c =
    let f = c.in_err-ended.field-0.0 in
    let is : IsOfEpoch c.args.options.now c.args.budget (c.args.node, c.args.runners.now.items) f =
    of_end c.args.options.now c.args.budget (c.args.node, c.args.runners.now.items) (c.run_epoch.new.node, c.run_epoch.new.runners.items) f c.in_ok-run_epoch.ensures.runs c.in_err-ended.ensures.fault in
    let told : c.from_residual-in_err-ended.result ≡ Err f = search rules in
    rw told is
