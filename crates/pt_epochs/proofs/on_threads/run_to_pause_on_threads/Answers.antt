-- `run_to_pause_on_threads`: its contract, and its loop over `left`.
use Rattle.std.proofs.Common.{rules, arith}
use Rattle.pt_epochs.proofs.Pausing.{all_spent, goes_far, pause_failed, paused}
use Rattle.pt_epochs.proofs.on_threads.run_to_pause_on_threads.Goals as goal

pub returns-in-Some : goal.returns-in-Some
returns-in-Some g c =
    paused c.args.plan c.in-Some.pause c.loop-left.invariant c.in_ok-rested.ensures c.as_slice.ensures.value c.desks.ensures.desks c.in-Some.ensures (omega (arith, c.min-count.ensures))
    (omega (arith, c.min-count.ensures, c.loop-left.invariant.some, c.loop-left-test.true))

pub returns-in_err-rested : goal.returns-in_err-rested
returns-in_err-rested g c = pause_failed c.args.plan c.from_residual.result c.in_err-rested.field-0.0 c.min-count.result (record { desks = c.one_leg_on_threads.new.node; works = c.one_leg_on_threads.new.crews.items }) c.loop-left.invariant c.in_err-rested.ensures c.loop-left-test.true (search rules)

pub loop-left-preserved : goal.loop-left-preserved
loop-left-preserved g c =
    goes_far c.args.plan c.loop-left.invariant c.in_ok-rested.ensures c.as_slice.ensures.value c.desks.ensures.desks c.in_default.ensures c.longer-leg.ensures (omega (arith, c.min-count.ensures))

pub returns : goal.returns
returns g c = all_spent c.args.plan c.loop-left.invariant (omega (arith, c.loop-left-test.false))
