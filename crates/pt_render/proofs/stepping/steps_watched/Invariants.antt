-- `steps_watched`: what holds in its loop, and that it ends.
use Rattle.std.proofs.Common.{length}
use Rattle.pt_render.proofs.OneByOne.{IsStepping}
use Rattle.pt_render.proofs.stepping.steps_watched.Given as goal

abbrev pub invariant-loop-first : goal.invariant-loop-first
invariant-loop-first g l = IsStepping l.events l.rest l.list.items l.state

abbrev pub decreases-loop-first : goal.decreases-loop-first
decreases-loop-first g l = length l.rest
