-- `answer_all`: what holds in its loop over `place`.
use Rattle.pt_c_crews.specs.Crewing.{KeepsCrew}
use Rattle.pt_c_crews.proofs.InCrew.{TakenSo}
use Rattle.pt_c_crews.proofs.batches.answer_all.Given as goal

abbrev pub invariant-loop-place : goal.invariant-loop-place
invariant-loop-place l = record {
  so_far : TakenSo l.answers l.place l.fn.crew l.crew;
  keeps : KeepsCrew l.fn.crew l.crew;
}
