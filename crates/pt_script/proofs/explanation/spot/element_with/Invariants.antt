-- `element_with`: what holds in its loop over `value`.
use Rattle.std.proofs.Common.{◌≡◌, ℕ, List, drop, map}
use Rattle.serde_json.specs.Data.{Data}
use Rattle.serde_json.specs.View.{view}
use Rattle.pt_script.specs.Spots as spec
use Rattle.pt_script.proofs.explanation.spot.element_with.Given as goal

abbrev pub invariant-loop-value : goal.invariant-loop-value
invariant-loop-value l =
    (inside : Data → List ℕ → ℕ → List ℕ)
    → spec.among_elements (spec.inside_element l.is_top l.levels) inside (map view l.list) l.text l.number
    ≡ spec.among_elements (spec.inside_element l.is_top l.levels) inside (drop l.value-index (map view l.list)) l.rest l.left
