-- `verb_in`: what holds in its loop over `place`.
use Rattle.std.proofs.Common.{◌≡◌, drop, map}
use Rattle.pt_shell.specs.Calls.{first_named, named_row}
use Rattle.pt_shell.proofs.lines.verb.verb_in.Given as goal

abbrev pub invariant-loop-place : goal.invariant-loop-place
invariant-loop-place l = first_named (map named_row l.table) l.word ≡ first_named (map named_row (drop l.place l.table)) l.word
