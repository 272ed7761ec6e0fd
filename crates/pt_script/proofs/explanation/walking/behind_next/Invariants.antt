-- `behind_next`: what holds in its loop over `index`.
use Rattle.std.proofs.Common.{◌≡◌, ◌≤◌, drop}
use Rattle.pt_script.specs.Walks as spec
use Rattle.pt_script.specs.declared.explanation.walking.Stand.TheVariants.{Plain}
use Rattle.pt_script.proofs.explanation.walking.behind_next.Given as goal

abbrev pub invariant-loop-index : goal.invariant-loop-index
invariant-loop-index l =
    (spec.behind_next (Plain 0) l.text ≡ spec.behind_next l.stand (drop l.index l.text)) × (spec.brackets_of l.stand ≤ l.index)
