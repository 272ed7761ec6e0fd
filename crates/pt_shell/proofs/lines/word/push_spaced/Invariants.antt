-- `push_spaced`: what holds in its loop over `place`.
use Rattle.std.proofs.Common.{◌≡◌, ◌++◌, drop, map}
use Rattle.pt_shell.specs.Words.{spaced, told_word}
use Rattle.pt_shell.proofs.lines.word.push_spaced.Given as goal

abbrev pub invariant-loop-place : goal.invariant-loop-place
invariant-loop-place l =
    l.text.items ++ spaced (map told_word (drop l.place l.words)) ≡ l.fn.text.items ++ spaced (map told_word l.words)
