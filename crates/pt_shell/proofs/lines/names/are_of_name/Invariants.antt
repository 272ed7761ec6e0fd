-- `are_of_name`: what holds in its loop over `place`.
use Rattle.std.proofs.Common.{◌≡◌, drop}
use Rattle.std.specs.List.{list_all}
use Rattle.pt_shell.specs.Names.{is_of_name}
use Rattle.pt_shell.proofs.lines.names.are_of_name.Given as goal

abbrev pub invariant-loop-place : goal.invariant-loop-place
invariant-loop-place l = list_all is_of_name l.word ≡ list_all is_of_name (drop l.place l.word)
