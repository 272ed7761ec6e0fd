-- `behind`: what holds in its loop over `place`.
use Rattle.std.proofs.Common.{◌≡◌, ◌≤◌, drop, length}
use Rattle.pt_texts.specs.Steps.{behind}
use Rattle.pt_texts.proofs.steps.behind.Given as goal

abbrev pub invariant-loop-place : goal.invariant-loop-place
invariant-loop-place l = (l.place ≤ length l.text) × (behind l.word-2 l.text ≡ behind (drop l.place l.word-2) (drop l.place l.text))
