-- `birth_of`: what holds in its loop over `k`.
use Rattle.std.proofs.Common.{drop, None}
use Rattle.pt_events.specs.declared.event.Stamped.{Stamped}
use Rattle.pt_events.specs.declared.event.Event.TheVariants.{Born}
use Rattle.pt_chart.proofs.Mentioning.{Seen, Unborn}
use Rattle.pt_chart.proofs.layout.birth_of.Given as goal

abbrev nothing : Stamped
nothing = record { stamp = 0; desk = 0; event = Born (record { shard = 0; slot = 0; version = 0 }) None None }

abbrev pub invariant-loop-k : goal.invariant-loop-k
invariant-loop-k l = Seen l.fn.pid l.events (drop l.k l.own) (Unborn l.fn.pid l.events nothing)
