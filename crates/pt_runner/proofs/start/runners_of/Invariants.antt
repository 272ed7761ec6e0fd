-- `runners_of`: what holds in its loop over `desk`.
use Rattle.pt_runner.specs.Starting.{AreRunners}
use Rattle.pt_runner.proofs.start.runners_of.Given as goal

abbrev pub invariant-loop-desk : goal.invariant-loop-desk
invariant-loop-desk l = AreRunners l.script l.born l.desk l.runners.items
