-- `AtRest::clock`: what holds in its loop over `which`.
use Rattle.std.proofs.Common.{◌≡◌}
use Rattle.pt_gathered.specs.Quiet.{latest_below}
use Rattle.pt_gathered.proofs.at_rest.AtRest.clock.Given as goal

abbrev pub invariant-loop-which : goal.invariant-loop-which
invariant-loop-which l = l.latest ≡ latest_below l.self l.which
