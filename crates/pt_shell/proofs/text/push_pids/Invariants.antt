-- `push_pids`: what holds in its loop over `place`.
use Rattle.std.proofs.Common.{◌≡◌, ◌++◌, drop}
use Rattle.std.specs.Prelude.{string_bytes}
use Rattle.pt_shell.specs.Text.{more_pids}
use Rattle.pt_shell.proofs.text.push_pids.Given as goal

abbrev pub invariant-loop-place : goal.invariant-loop-place
invariant-loop-place l = string_bytes l.text ++ more_pids (drop l.place l.pids) ≡ string_bytes l.fn.text ++ more_pids l.pids
