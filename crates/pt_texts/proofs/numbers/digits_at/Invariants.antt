-- `digits_at`: what holds in its loop over `place`.
use Rattle.std.proofs.Common.{◌≡◌, ◌≤◌, drop}
use Rattle.pt_texts.specs.Numbers.{digits_at}
use Rattle.pt_texts.proofs.numbers.digits_at.Given as goal

abbrev pub invariant-loop-place : goal.invariant-loop-place
invariant-loop-place l = (l.number ≤ l.most) × (digits_at l.most l.first l.text ≡ digits_at l.most l.number (drop l.place l.text))
