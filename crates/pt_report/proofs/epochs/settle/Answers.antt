-- `settle`: its clause `fault`.
use Rattle.std.proofs.Common.{sym, subst}
use Rattle.pt_report.specs.Epochs.{IsOfEnd}
use Rattle.pt_report.proofs.Passing.{stopped_of_end}
use Rattle.pt_report.proofs.epochs.settle.Goals as goal

pub returns-in-Err-clause-fault : goal.returns-in-Err-clause-fault
returns-in-Err-clause-fault c =
    let unsettled = c.in-Err.unsettled in
    subst (IsOfEnd c.args.node) (sym c.from.ensures) (stopped_of_end c.args.node c.in-Ok.gathered unsettled.gathered unsettled.fault c.in-Ok.ensures.gathers c.in-Err.ensures.refused_order)
