-- `Settled::ends_since`: what holds in its loop over `which`.
use Rattle.std.proofs.Common.{◌≡◌}
use Rattle.pt_gathered.specs.Late.{ends_below}
use Rattle.pt_gathered.proofs.settled.Settled.ends_since.Given as goal

abbrev pub invariant-loop-which : goal.invariant-loop-which
invariant-loop-which l =
    l.ends.items ≡ ends_below (record { gathered = l.self-inside.node; handled = l.self-inside.handled; lives = l.self-inside.lives }) l.places l.stamp l.which
