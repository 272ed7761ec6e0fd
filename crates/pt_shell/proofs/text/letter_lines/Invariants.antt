-- `letter_lines`: what holds in its loop over `place`.
use Rattle.std.proofs.Common.{◌≡◌, ◌++◌, drop}
use Rattle.std.specs.Prelude.{string_bytes}
use Rattle.pt_shell.specs.Text.{letter_lines}
use Rattle.pt_shell.proofs.text.letter_lines.Given as goal

abbrev pub invariant-loop-place : goal.invariant-loop-place
invariant-loop-place l = string_bytes l.text ++ letter_lines (drop l.place l.letters) ≡ letter_lines l.letters
