-- `push_items`: what holds in its loop over `place`.
use Rattle.std.proofs.Common.{◌≡◌, ◌++◌, drop}
use Rattle.std.specs.Prelude.{string_bytes}
use Rattle.pt_shell.specs.Text.{more_items}
use Rattle.pt_shell.proofs.text.push_items.Given as goal

abbrev pub invariant-loop-place : goal.invariant-loop-place
invariant-loop-place l = string_bytes l.text ++ more_items (drop l.place l.items) ≡ string_bytes l.fn.text ++ more_items l.items
