-- `pass_epochs`: what holds in its loop over `epoch`.
use Rattle.std.proofs.Common.{◌≡◌, List}
use Rattle.pt_events.specs.declared.event.Stamped.{Stamped}
use Rattle.pt_report.specs.Epochs.{PassEpochs, AreAt}
use Rattle.pt_report.proofs.epochs.pass_epochs.Given as goal

-- as many epochs as were counted have passed since the first
abbrev pub invariant-loop-epoch : goal.invariant-loop-epoch
invariant-loop-epoch g l =
    ((histories : List Stamped) × PassEpochs l.options l.budget l._epoch (l.initial.node, l.initial.runners.items) histories (l.node, l.runners.items)
    × AreAt g.W.Write.contents l.options.print histories l.initial.out l.kept.items l.out)
    × (l._epoch ≡ 0 → l.out ≡ l.initial.out)
