-- `runner_of`: what holds in its loop over `index`.
use Rattle.std.specs.List.{All}
use Rattle.pt_runner.specs.Waiting.{IsUnmarked}
use Rattle.pt_runner.proofs.Starting.{Listed}
use Rattle.pt_runner.proofs.start.runner_of.Given as goal

abbrev pub invariant-loop-index : goal.invariant-loop-index
invariant-loop-index l = Listed l.script l.born l.desk l.index l.actors.items × All IsUnmarked l.actors.items
