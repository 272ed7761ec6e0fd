-- `mentions_of`: its contract, and its loop over `at`.
use Rattle.std.proofs.Common.{None, arith}
use Rattle.pt_events.specs.declared.event.Stamped.{Stamped}
use Rattle.pt_events.specs.declared.event.Event.TheVariants.{Born}
use Rattle.pt_chart.proofs.Mentioning.{notices_next, notices_all}
use Rattle.pt_chart.proofs.mentions.mentions_of.Goals as goal

abbrev nothing : Stamped
nothing = record { stamp = 0; desk = 0; event = Born (record { shard = 0; slot = 0; version = 0 }) None None }

pub loop-at-preserved : goal.loop-at-preserved
loop-at-preserved c = notices_next c.args.events.now c.loop-at.at nothing c.loop-at.mentions c.note.new.self (omega arith) c.loop-at.invariant c.in_ok-note.ensures

pub returns : goal.returns
returns c = notices_all c.args.events.now c.loop-at.at c.loop-at.mentions (omega arith) c.loop-at.invariant
