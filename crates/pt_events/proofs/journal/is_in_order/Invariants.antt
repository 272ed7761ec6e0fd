-- `is_in_order`: what holds in its loop over `event`.
use Rattle.std.proofs.Common.{◌≡◌, reverse, take}
use Rattle.pt_events.specs.JournalState.{IsInOrder}
use Rattle.pt_events.proofs.InOrder.{newest_stamp}
use Rattle.pt_events.proofs.journal.is_in_order.Given as goal

abbrev pub invariant-loop-event : goal.invariant-loop-event
invariant-loop-event l = IsInOrder l.desk (reverse (take l.event-index l.events)) × (l.newest ≡ newest_stamp (reverse (take l.event-index l.events)))
