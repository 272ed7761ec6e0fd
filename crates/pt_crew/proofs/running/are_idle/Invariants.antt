-- `are_idle`: what holds in its loop over `place`.
use Rattle.std.proofs.Common.{◌≡◌, ℕ, ◌<◌, true, get_or}
use Rattle.pt_desk.specs.DeskState.{DeskState}
use Rattle.pt_crew.specs.declared.crew.Crew.{Crew}
use Rattle.pt_crew.specs.Running.{is_idle}
use Rattle.pt_crew.proofs.running.are_idle.Given as goal

abbrev pub invariant-loop-place : goal.invariant-loop-place
invariant-loop-place g l = (d : ℕ) (c : Crew g.row.B.Denot) (x : DeskState) → d < l.place → is_idle (get_or l.crews d c) (get_or l.desks d x).shard ≡ true
