-- `replay_from`: what holds in its loop over `place`.
use Rattle.pt_events.specs.History.{Start, Past, IsLegal}
use Rattle.pt_judge.specs.Judge.{IsAfter}
use Rattle.pt_judge.proofs.Trial.{IsAtPlace}
use Rattle.pt_judge.proofs.judging.trial.replay_from.Given as goal

abbrev pub invariant-loop-place : goal.invariant-loop-place
invariant-loop-place l = (start : Start) (past : Past) → IsAfter start past l.fn.state → IsLegal start past → IsAtPlace start past l.events l.place l.state
