-- `run_epochs`: its contract, and its loop over `epoch`.
use Rattle.std.proofs.Common.{sym, ◌∙◌, rules, arith}
use Rattle.pt_epochs.proofs.Passing.{all_after, ended_attend, ends_after, goes_after, halts_after, passed_attend}
use Rattle.pt_epochs.proofs.epochs.run_epochs.Goals as goal

pub returns-in_err-next-clause-halts : goal.returns-in_err-next-clause-halts
returns-in_err-next-clause-halts g c =
    halts_after c.from_residual.result c.in_err-next.field-0.0 c.one_epoch.new.crews.items c.one_epoch.new.sink c.loop-epoch.invariant c.in_err-next.ensures.halts (omega (arith, c.loop-epoch-test.true)) (search rules)

pub returns-in-Some-clause-passes : goal.returns-in-Some-clause-passes
returns-in-Some-clause-passes g c =
    ends_after c.loop-epoch.invariant c.in_ok-next.ensures.passes (sym c.outcome_of.ensures ∙ c.in-Some.is) (omega (arith, c.loop-epoch-test.true))

pub returns-in-Some-clause-attends : goal.returns-in-Some-clause-attends
returns-in-Some-clause-attends g c =
    ended_attend g.B.Behaviour.answers (g.D.Drive.lets c.args.drive.now) c.args.plan g.S.Sink.takes g.S.Sink.refuses c.loop-epoch.invariant c.in_ok-next.ensures.passes

pub loop-epoch-preserved : goal.loop-epoch-preserved
loop-epoch-preserved g c = goes_after c.loop-epoch.invariant c.in_ok-next.ensures.passes (sym c.outcome_of.ensures ∙ c.in_default.is)

pub returns-clause-attends : goal.returns-clause-attends
returns-clause-attends g c = passed_attend g.B.Behaviour.answers (g.D.Drive.lets c.args.drive.now) c.args.plan g.S.Sink.takes g.S.Sink.refuses c.loop-epoch.invariant

pub returns-clause-passes : goal.returns-clause-passes
returns-clause-passes g c = all_after c.loop-epoch.invariant (omega (arith, c.loop-epoch.auto._epoch-end, c.loop-epoch-test.false))
