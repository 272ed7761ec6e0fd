-- `words_of`: what holds in its loop over `place`.
use Rattle.std.proofs.Common.{◌≡◌, ◌+◌, ◌≤◌, ◌++◌, drop, map}
use Rattle.std.specs.Prelude.{slice_range}
use Rattle.pt_shell.specs.Words.{told_word, words_behind, words_in}
use Rattle.pt_shell.proofs.lines.word.words_of.Given as goal

abbrev pub invariant-loop-place : goal.invariant-loop-place
invariant-loop-place l =
    (l.start ≤ l.place)
    × (map told_word l.words.items ++ words_behind (l.start + 1) (slice_range l.line l.start l.place) (drop l.place l.line) ≡ words_in l.line)
