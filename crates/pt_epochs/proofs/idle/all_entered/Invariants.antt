-- `all_entered`: what holds in its loop over `place`.
use Rattle.std.proofs.Common.{◌≡◌, ℕ, ◌<◌, length, get_or}
use Rattle.pt_crew.specs.declared.crew.Crew.{Crew}
use Rattle.pt_crew.specs.Crews.{waiting}
use Rattle.pt_epochs.proofs.idle.all_entered.Given as goal

abbrev pub invariant-loop-place : goal.invariant-loop-place
invariant-loop-place g l = (d : ℕ) (c : Crew g.row.B.Denot) → d < l.place → length (waiting (get_or l.crews d c)) ≡ 0
