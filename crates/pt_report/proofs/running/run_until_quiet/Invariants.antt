-- `run_until_quiet`: what holds in its loop over `_run`.
use Rattle.pt_report.specs.Epochs.{CanBegin, RunsAgain, with_a_turn}
use Rattle.pt_report.proofs.running.run_until_quiet.Given as goal

abbrev pub invariant-loop-run : goal.invariant-loop-run
invariant-loop-run g l =
    RunsAgain (with_a_turn l.options) l.budget l._run (l.initial.node, l.initial.runners.items) (l.node, l.runners.items) × CanBegin l.node l.runners.items
