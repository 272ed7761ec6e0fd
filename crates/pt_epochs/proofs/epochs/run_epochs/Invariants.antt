-- `run_epochs`: what holds in its loop over `epoch`.
use Rattle.pt_epochs.specs.Idle.{InTurns}
use Rattle.pt_epochs.proofs.Passing.{Passed}
use Rattle.pt_epochs.proofs.epochs.run_epochs.Given as goal

-- as many epochs have passed as were counted, and the run goes on behind each of them
abbrev pub invariant-loop-epoch : goal.invariant-loop-epoch
invariant-loop-epoch g l =
    Passed (InTurns g.B.Behaviour.answers (g.D.Drive.lets l.drive) l.plan.budget) l.plan g.S.Sink.takes g.S.Sink.refuses l._epoch
    (record { desks = l.initial.node; crews = l.initial.crews.items; sink = l.initial.sink })
    (record { desks = l.node; crews = l.crews.items; sink = l.sink })
