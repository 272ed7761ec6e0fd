-- `epochs::epochs`: what holds in its loop over `epoch`.
use Rattle.pt_workers.specs.Running.{AllWork, always, begins_by}
use Rattle.example_uses.specs.Epochs.{PassAsOne}
use Rattle.example_uses.proofs.epochs.epochs.Given as goal

-- as many epochs as were counted have passed since the first
abbrev pub invariant-loop-epoch : goal.invariant-loop-epoch
invariant-loop-epoch g l =
    PassAsOne (AllWork (begins_by g.W.Task.standing (λ desk turn. always desk turn)) (g.W.Task.does, g.W.Task.hears) l.plan.turns l.plan.budget) g.A.Archive.keeps
    l._epoch (record { desks = l.initial.node; works = l.initial.works.items; archive = l.initial.archive })
    (record { desks = l.node; works = l.works.items; archive = l.archive })
