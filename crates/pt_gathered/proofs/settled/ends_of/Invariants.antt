-- `ends_of`: what holds in its loop over `which`.
use Rattle.std.proofs.Common.{◌≡◌, take}
use Rattle.pt_gathered.specs.Quiet.{ends_of}
use Rattle.pt_gathered.proofs.settled.ends_of.Given as goal

abbrev pub invariant-loop-which : goal.invariant-loop-which
invariant-loop-which l = l.ends.items ≡ ends_of l.stamp (take l.which l.desks)
