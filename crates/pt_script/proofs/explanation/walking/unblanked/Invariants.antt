-- `unblanked`: what holds in its loop over `index`.
use Rattle.std.proofs.Common.{◌≡◌, drop}
use Rattle.pt_script.specs.Walks as spec
use Rattle.pt_script.proofs.explanation.walking.unblanked.Given as goal

abbrev pub invariant-loop-index : goal.invariant-loop-index
invariant-loop-index l = spec.unblanked l.text ≡ spec.unblanked (drop l.index l.text)
