-- `AtRest::left_over`: what holds in its loop over `d`.
use Rattle.std.proofs.Common.{◌≡◌, length}
use Rattle.pt_gathered.specs.LeftOvers.{joined_letters, left_from}
use Rattle.pt_gathered.proofs.at_rest.AtRest.left_over.Given as goal

abbrev pub invariant-loop-d : goal.invariant-loop-d
invariant-loop-d l = l.left.items ≡ joined_letters (λ d. left_from l.self d (length l.self.shards)) l.d
