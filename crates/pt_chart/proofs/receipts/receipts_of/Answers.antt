-- `receipts_of`: its contract, its loop over `k`, and that each place is one of an event.
use Rattle.std.proofs.Common.{None, length, arith}
use Rattle.pt_events.specs.declared.event.Stamped.{Stamped}
use Rattle.pt_events.specs.declared.event.Event.TheVariants.{Born}
use Rattle.pt_chart.proofs.Arrivals.{queues_all}
use Rattle.pt_chart.proofs.Mentioning.{receipt_at, receipt_own, receipts_all}
use Rattle.pt_chart.proofs.receipts.receipts_of.Goals as goal

abbrev nothing : Stamped
nothing = record { stamp = 0; desk = 0; event = Born (record { shard = 0; slot = 0; version = 0 }) None None }

pub event_at-requires : goal.event_at-requires
event_at-requires c = (receipt_at c.args.from c.args.events.now nothing c.args.own.now c.loop-k.k c.loop-k.receipts c.loop-k-test.true c.loop-k.invariant).within

pub loop-k-preserved : goal.loop-k-preserved
loop-k-preserved c = receipt_own c.args.from c.args.events.now nothing c.args.own.now c.loop-k.k c.loop-k.receipts c.note.new.self c.event_at.result c.loop-k-test.true c.loop-k.invariant (c.event_at.ensures nothing) c.in_ok-note.ensures

pub returns : goal.returns
returns c = queues_all c.args.from c.args.events.now (length c.args.events.now) c.loop-k.receipts (omega arith) (receipts_all c.args.from c.args.events.now nothing c.args.own.now c.loop-k.k c.loop-k.receipts (omega arith) c.loop-k.invariant)
