-- `run_to_pause`: what holds in its loop over `left`.
use Rattle.pt_epochs.specs.Idle.{InTurns}
use Rattle.pt_epochs.proofs.Pausing.{Going}
use Rattle.pt_epochs.proofs.epochs.run_to_pause.Given as goal

abbrev pub invariant-loop-left : goal.invariant-loop-left
invariant-loop-left g l =
    Going (InTurns g.B.Behaviour.answers (g.D.Drive.lets l.drive) l.plan.budget) l.plan (record { desks = l.initial.node; works = l.initial.crews.items }) l.leg l.left
    (record { desks = l.node; works = l.crews.items })

abbrev pub decreases-loop-left : goal.decreases-loop-left
decreases-loop-left g l = l.left
