-- `value_in`: what holds in its loop over `place`.
use Rattle.std.proofs.Common.{◌≡◌, drop, map, None}
use Rattle.pt_shell.specs.Names.{value_after}
use Rattle.pt_shell.proofs.lines.names.value_in.Given as goal

abbrev pub invariant-loop-place : goal.invariant-loop-place
invariant-loop-place l =
    value_after None (map (λ b. (b.name.items, b.value)) l.bindings) l.name
    ≡ value_after l.found (map (λ b. (b.name.items, b.value)) (drop l.place l.bindings)) l.name
