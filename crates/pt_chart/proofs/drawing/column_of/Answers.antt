-- `column_of`: its contract.
use Rattle.std.proofs.Common.{ap, ◌∙◌, length}
use Rattle.std.specs.Prelude.{position, unwrap_or}
use Rattle.pt_signal.specs.Values.{same_pid}
use Rattle.pt_chart.specs.declared.layout.Column.{Column}
use Rattle.pt_chart.proofs.Naming.{position_of}
use Rattle.pt_chart.proofs.drawing.column_of.Goals as goal

pub returns : goal.returns
returns c =
    let columns = c.args.columns.now in
    let test = same_pid c.args.pid in
    c.unwrap_or.ensures
    ∙ ap (λ o. unwrap_or o (length columns)) (c.first.ensures ∙ ap (position test) c.requires ∙ position_of test (λ (x : Column). x.pid) columns)
