-- `first_line`: what holds in its loop over `end`.
use Rattle.std.proofs.Common.{◌≡◌, ◌++◌, take, drop}
use Rattle.pt_shell.specs.Sessions.{line_in}
use Rattle.pt_shell.proofs.expecting.first_line.Given as goal

abbrev pub invariant-loop-end : goal.invariant-loop-end
invariant-loop-end l = line_in l.text ≡ take l.end l.text ++ line_in (drop l.end l.text)
