-- `follow_on`: its clauses `sent` and `ending`, its loop over `k`, and that each place is one of an event.
use Rattle.std.proofs.Common.{None, arith}
use Rattle.pt_events.specs.declared.event.Stamped.{Stamped}
use Rattle.pt_events.specs.declared.event.Event.TheVariants.{Born}
use Rattle.pt_chart.proofs.Mentioning.{TracesTo, seen_first, trace_first, trace_at, trace_own, trace_all}
use Rattle.pt_chart.proofs.layout.follow_on.Goals as goal

abbrev nothing : Stamped
nothing = record { stamp = 0; desk = 0; event = Born (record { shard = 0; slot = 0; version = 0 }) None None }

pub loop-k-init : goal.loop-k-init
loop-k-init c =
    seen_first c.args.pid c.args.events.now c.args.own.now (TracesTo c.args.events.now c.args.pid c.args.follower.now c.args.sent.now.items c.args.sent.now.items None) c.requires.own
    (trace_first c.args.events.now c.args.pid c.args.follower.now c.args.sent.now.items c.requires.unborn)

pub event_at-requires : goal.event_at-requires
event_at-requires c = (trace_at c.args.events.now nothing c.args.pid c.args.own.now c.loop-k.k c.loop-k.follower c.args.sent.now.items c.loop-k.sent.items c.loop-k.ended c.loop-k-test.true c.loop-k.invariant).within

pub loop-k-preserved : goal.loop-k-preserved
loop-k-preserved c =
    trace_own c.args.events.now nothing c.args.pid c.args.own.now c.loop-k.k c.loop-k.follower c.args.sent.now.items c.loop-k.sent.items c.loop-k.ended c.see.new.self c.see.new.sent.items c.noted-ended.result c.in_ok-reason.reason c.event_at.result
    c.loop-k-test.true c.loop-k.invariant (c.event_at.ensures nothing) c.in_ok-reason.ensures.state c.in_ok-reason.ensures.sent c.noted-ended.ensures c.in_ok-reason.ensures.ending

pub returns-clause-sent : goal.returns-clause-sent
returns-clause-sent c = λ anew. (trace_all c.args.events.now nothing c.args.pid c.args.own.now c.loop-k.k c.loop-k.follower c.args.sent.now.items c.loop-k.sent.items c.loop-k.ended (omega arith) c.loop-k.invariant anew).sent

pub returns-clause-ending : goal.returns-clause-ending
returns-clause-ending c = λ anew. (trace_all c.args.events.now nothing c.args.pid c.args.own.now c.loop-k.k c.loop-k.follower c.args.sent.now.items c.loop-k.sent.items c.loop-k.ended (omega arith) c.loop-k.invariant anew).end
