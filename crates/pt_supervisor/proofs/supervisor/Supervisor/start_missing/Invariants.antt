-- `Supervisor::start_missing`: what holds in its loop over `place`.
use Rattle.std.proofs.Common.{◌≡◌, ◌≤◌, ◌-◌, length}
use Rattle.pt_desk.specs.DeskState.{GoesOn}
use Rattle.pt_behaviour.specs.Births.{kept_roles}
use Rattle.pt_behaviour.specs.Behaving.{takes}
use Rattle.pt_children.specs.Children.{NoneUnwanted, PermanentAreWanted}
use Rattle.pt_supervisor.specs.Hearing.{standing}
use Rattle.pt_supervisor.specs.Supervising.{StartsFirst, nursery, supervisor_scene}
use Rattle.pt_supervisor.proofs.supervisor.Supervisor.start_missing.Given as goal

abbrev pub invariant-loop-place : goal.invariant-loop-place
invariant-loop-place g l = record {
  does : StartsFirst g.S.Start.starts l.me l.fn.self.strategy l.from (nursery (supervisor_scene l.fn.self l.fn.desk l.fn.births)) (nursery (supervisor_scene l.self l.desk l.births));
  rest : standing l.self ≡ record (standing l.fn.self) {
    children = (standing l.self).children;
    started = (standing l.self).started;
  };
  permanent : PermanentAreWanted (standing l.fn.self).children → PermanentAreWanted (standing l.self).children;
  unwanted : NoneUnwanted (standing l.fn.self).children → NoneUnwanted (standing l.self).children;
  within : l.from ≤ length (standing l.self).children;
  count : length (standing l.self).children ≡ length (standing l.fn.self).children;
  takes : takes l.desk.shard.journal ≡ takes l.fn.desk.shard.journal;
  kept : kept_roles l.births ≡ kept_roles l.fn.births;
  goes_on : GoesOn l.fn.desk l.desk;
}

abbrev pub decreases-loop-place : goal.decreases-loop-place
decreases-loop-place g l = length (standing l.self).children - l.from
