-- `AtRest::list_from`: what holds in its loop over `e`.
use Rattle.std.proofs.Common.{◌≡◌, ◌++◌}
use Rattle.pt_gathered.specs.LeftOvers.{left_from}
use Rattle.pt_gathered.proofs.at_rest.AtRest.list_from.Given as goal

abbrev pub invariant-loop-e : goal.invariant-loop-e
invariant-loop-e l = l.left.items ≡ l.fn.left.items ++ left_from l.self l.d l.e
