-- `value_in`: what holds in its loop.
use Rattle.std.proofs.Common.{◌≡◌, ◌-◌, ◌≤◌, drop, length}
use Rattle.pt_script.specs.Walks as spec
use Rattle.pt_script.proofs.explanation.walking.value_in.Given as goal

abbrev pub invariant-loop : goal.invariant-loop
invariant-loop l =
    (spec.last_value l.name (length l.text) l.text (drop 1 l.text) ≡ spec.last_value l.name (length l.text - l.counter) l.found l.rest)
    × (l.counter ≤ length l.text)
