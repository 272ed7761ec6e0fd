-- `number_behind`: what holds in its loop over `place`.
use Rattle.std.proofs.Common.{◌≡◌, ◌≤◌, drop}
use Rattle.pt_shell.specs.Numbers.{number_after_digits}
use Rattle.pt_shell.proofs.lines.numbers.number_behind.Given as goal

abbrev pub invariant-loop-place : goal.invariant-loop-place
invariant-loop-place l = (l.number ≤ l.most) × (number_after_digits l.most 0 l.text ≡ number_after_digits l.most l.number (drop l.place l.text))
