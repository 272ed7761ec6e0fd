-- `item_in`: what holds in its loop.
use Rattle.std.proofs.Common.{◌≡◌, ◌-◌, ◌≤◌, drop}
use Rattle.pt_script.specs.Walks as spec
use Rattle.pt_script.proofs.explanation.walking.item_in.Given as goal

abbrev pub invariant-loop : goal.invariant-loop
invariant-loop l = (spec.passed l.index (drop 1 l.text) ≡ spec.passed (l.index - l.counter) l.rest) × (l.counter ≤ l.index)
