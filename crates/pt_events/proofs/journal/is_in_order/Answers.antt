-- `is_in_order`: its contract, and its loop over `event`.
use Rattle.std.proofs.Common.{◌∙◌, sym}
use Rattle.pt_events.proofs.InOrder.{goes_on, newest_here, stops}
use Rattle.pt_events.proofs.journal.is_in_order.Goals as goal

pub returns-then-not-is_next : goal.returns-then-not-is_next
returns-then-not-is_next c =
    stops c.args.desk c.args.events.now c.loop-event.event-index _ c.loop-event.newest c.loop-event-test.true c.loop-event.invariant.1
    (sym c.is_next.ensures ∙ c.if-not-is_next.true)

pub loop-event-preserved : goal.loop-event-preserved
loop-event-preserved c = (
  goes_on c.args.desk c.args.events.now c.loop-event.event-index _ c.loop-event.newest c.loop-event-test.true c.loop-event.invariant.1
      (sym c.is_next.ensures ∙ c.if-not-is_next.false) c.loop-event.invariant.0,
  newest_here c.args.desk c.args.events.now c.loop-event.event-index _ c.loop-event.newest c.loop-event-test.true c.loop-event.invariant.1,
)
