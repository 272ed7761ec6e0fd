-- `run_epoch`: its clause `runs`.
use Rattle.std.proofs.Common.{sym, subst}
use Rattle.std.specs.Prelude.{OnOk}
use Rattle.pt_render.specs.declared.choices.Until.{Until}
use Rattle.pt_report.specs.Epochs.{RunsTo}
use Rattle.pt_report.proofs.running.run_epoch.Goals as goal

pub returns-in-Turns-clause-runs : goal.returns-in-Turns-clause-runs
returns-in-Turns-clause-runs g c =
    subst (λ (u : Until). OnOk c.run_once.result (RunsTo u c.args.options.now c.args.budget (c.args.node.now, c.args.runners.now.items) (c.run_once.new.node, c.run_once.new.runners.items))) (sym c.in-Turns.is) c.run_once.ensures.runs

pub returns-in-Quiet-clause-runs : goal.returns-in-Quiet-clause-runs
returns-in-Quiet-clause-runs g c =
    subst (λ (u : Until). OnOk c.run_until_quiet.result (RunsTo u c.args.options.now c.args.budget (c.args.node.now, c.args.runners.now.items) (c.run_until_quiet.new.node, c.run_until_quiet.new.runners.items))) (sym c.in-Quiet.is) c.run_until_quiet.ensures.runs
