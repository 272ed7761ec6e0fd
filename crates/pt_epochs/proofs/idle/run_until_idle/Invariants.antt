-- `run_until_idle`: what holds in its loop over `left`.
use Rattle.std.proofs.Common.{max}
use Rattle.pt_epochs.specs.Idle.{InTurns, IsGoing}
use Rattle.pt_epochs.proofs.Legs.{Underway}
use Rattle.pt_epochs.proofs.idle.run_until_idle.Given as goal

abbrev pub invariant-loop-left : goal.invariant-loop-left
invariant-loop-left g l =
    Underway (InTurns g.B.Behaviour.answers (g.D.Drive.lets l.drive) l.budget) l.budget IsGoing (max l.turns 1) (record { desks = l.initial.node; works = l.initial.crews.items }) l.leg l.left
    (record { desks = l.node; works = l.crews.items })

abbrev pub decreases-loop-left : goal.decreases-loop-left
decreases-loop-left g l = l.left
