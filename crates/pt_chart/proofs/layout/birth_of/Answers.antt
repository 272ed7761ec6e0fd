-- `birth_of`: its contract, its loop over `k`, and that each place is one of an event.
use Rattle.std.proofs.Common.{None, sym, ◌∙◌, arith}
use Rattle.pt_events.specs.declared.event.Stamped.{Stamped}
use Rattle.pt_events.specs.declared.event.Event.TheVariants.{Born}
use Rattle.pt_chart.proofs.Mentioning.{Unborn, seen_first, birth_at, birth_found, birth_next, birth_none}
use Rattle.pt_chart.proofs.layout.birth_of.Goals as goal

abbrev nothing : Stamped
nothing = record { stamp = 0; desk = 0; event = Born (record { shard = 0; slot = 0; version = 0 }) None None }

pub loop-k-init : goal.loop-k-init
loop-k-init c = seen_first c.args.pid c.args.events.now c.args.own.now (Unborn c.args.pid c.args.events.now nothing) c.requires.own (λ k h. absurd (omega (arith, h)))

pub event_at-requires : goal.event_at-requires
event_at-requires c = (birth_at c.args.pid c.args.events.now nothing c.args.own.now c.loop-k.k c.loop-k-test.true c.loop-k.invariant).within

pub returns-then-is_birth : goal.returns-then-is_birth
returns-then-is_birth c = birth_found c.args.pid c.args.events.now nothing c.args.own.now c.loop-k.k c.event_at.result c.loop-k-test.true c.loop-k.invariant (c.event_at.ensures nothing) (sym c.is_birth.ensures ∙ c.if-is_birth.true)

pub loop-k-preserved : goal.loop-k-preserved
loop-k-preserved c = birth_next c.args.pid c.args.events.now nothing c.args.own.now c.loop-k.k c.event_at.result c.loop-k-test.true c.loop-k.invariant (c.event_at.ensures nothing) (sym c.is_birth.ensures ∙ c.if-is_birth.false)

pub returns : goal.returns
returns c = birth_none c.args.pid c.args.events.now nothing c.args.own.now c.loop-k.k (omega arith) c.loop-k.invariant
