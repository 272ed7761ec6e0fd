-- `place_of`: what holds in its loop over `place`.
use Rattle.std.proofs.Common.{◌≡◌, ◌+◌, drop}
use Rattle.pt_judge.specs.Places.{first_place}
use Rattle.pt_judge.proofs.judging.entries.place_of.Given as goal

abbrev pub invariant-loop-place : goal.invariant-loop-place
invariant-loop-place g l = first_place (g.K.Test.passes l.test) l.list ≡ l.place + first_place (g.K.Test.passes l.test) (drop l.place l.list)
