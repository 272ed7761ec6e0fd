-- `Alarms::ring`: what holds in its loop.
use Rattle.std.specs.Prelude.{◌≡◌, List, length}
use Rattle.pt_desk.specs.DeskState.{GoesOn}
use Rattle.pt_names.specs.Alarming.{Rung, RingsAll}
use Rattle.pt_behaviour.specs.Behaving.{takes}
use Rattle.pt_names.proofs.alarms.Alarms.ring.Given as goal

abbrev pub invariant-loop : goal.invariant-loop
invariant-loop l = record {
  rang : (rung : List Rung) × RingsAll l.me l.now rung l.initial.self.timers l.initial.desk l.self.timers l.desk;
  takes : takes l.desk.shard.journal ≡ takes l.initial.desk.shard.journal;
  goes_on : GoesOn l.initial.desk l.desk;
}

abbrev pub decreases-loop : goal.decreases-loop
decreases-loop l = length l.self.timers.pending
