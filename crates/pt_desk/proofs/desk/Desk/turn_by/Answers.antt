-- `Desk::turn_by`: its clauses, its loop over `k`, and what its calls ask.
use Rattle.std.proofs.Common.{arith}
use Rattle.pt_desk.proofs.Own.{have_none, have_next, left_behind, left_none, turned_all, stopped_at, turns_go_on}
use Rattle.pt_desk.proofs.desk.Desk.turn_by.Goals as goal

pub loop-k-init : goal.loop-k-init
loop-k-init c = have_none c.args.waiting c.args.budget c.args.self.now c.requires c.ranges.waiting.fits

pub loop-k-preserved : goal.loop-k-preserved
loop-k-preserved c =
    have_next c.args.waiting c.args.budget c.args.self.now c.requires c.ranges.waiting.fits c.loop-k.k c.loop-k.self c.handle_own.new.self c.loop-k.invariant
    (omega (arith, c.loop-k-test.true, c.min-count.ensures)) c.in_default.ensures

pub post_left-requires-clause-wait : goal.post_left-requires-clause-wait
post_left-requires-clause-wait c =
    (left_behind c.args.waiting c.args.budget c.args.self.now c.requires c.ranges.waiting.fits c.loop-k.k c.loop-k.self c.handle_own.new.self c.in-Err.stop c.loop-k.invariant.gone
    (omega (arith, c.loop-k-test.true, c.min-count.ensures)) c.in-Err.ensures).0

pub post_left-requires-clause-places : goal.post_left-requires-clause-places
post_left-requires-clause-places c =
    (left_behind c.args.waiting c.args.budget c.args.self.now c.requires c.ranges.waiting.fits c.loop-k.k c.loop-k.self c.handle_own.new.self c.in-Err.stop c.loop-k.invariant.gone
    (omega (arith, c.loop-k-test.true, c.min-count.ensures)) c.in-Err.ensures).1

pub returns-in-Err-clause-turns : goal.returns-in-Err-clause-turns
returns-in-Err-clause-turns c =
    stopped_at c.args.waiting c.args.budget c.args.self.now c.requires c.ranges.waiting.fits c.loop-k.k c.loop-k.self c.handle_own.new.self c.post_left.new.self c.in-Err.stop c.loop-k.invariant
    (omega (arith, c.loop-k-test.true, c.min-count.ensures)) c.in-Err.ensures c.post_left.ensures

pub returns-in-Err-clause-goes_on : goal.returns-in-Err-clause-goes_on
returns-in-Err-clause-goes_on c = turns_go_on c.args.budget c.args.self.now c.post_left.new.self (returns-in-Err-clause-turns c)

pub returns-then-count-waiting-clause-turns : goal.returns-then-count-waiting-clause-turns
returns-then-count-waiting-clause-turns c =
    let left = c.post_left-then-count-waiting in
    turned_all c.args.waiting c.args.budget c.args.self.now c.requires c.ranges.waiting.fits c.loop-k.k c.min-count.result _ c.loop-k.self left.new.self c.loop-k.invariant
    (omega (arith, c.loop-k-test.false, c.loop-k.auto.k-end)) (omega (arith, c.if-count-waiting.true)) c.min-count.ensures left.ensures

pub returns-then-count-waiting-clause-goes_on : goal.returns-then-count-waiting-clause-goes_on
returns-then-count-waiting-clause-goes_on c = turns_go_on c.args.budget c.args.self.now c.post_left-then-count-waiting.new.self (returns-then-count-waiting-clause-turns c)

pub returns-else-count-waiting-clause-turns : goal.returns-else-count-waiting-clause-turns
returns-else-count-waiting-clause-turns c =
    turned_all c.args.waiting c.args.budget c.args.self.now c.requires c.ranges.waiting.fits c.loop-k.k c.min-count.result 0 c.loop-k.self c.loop-k.self c.loop-k.invariant
    (omega (arith, c.loop-k-test.false, c.loop-k.auto.k-end)) (omega (arith, c.if-count-waiting.false, c.min-count.ensures)) c.min-count.ensures (left_none c.loop-k.self)

pub returns-else-count-waiting-clause-goes_on : goal.returns-else-count-waiting-clause-goes_on
returns-else-count-waiting-clause-goes_on c = turns_go_on c.args.budget c.args.self.now c.loop-k.self (returns-else-count-waiting-clause-turns c)
