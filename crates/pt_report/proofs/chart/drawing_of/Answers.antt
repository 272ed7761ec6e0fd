-- `drawing_of`: its contract.
use Rattle.std.proofs.Common.{◌≡◌, map, ap, subst, ◌∙◌}
use Rattle.std.specs.Prelude.{IfOk}
use Rattle.std.specs.String.{string_bytes}
use Rattle.pt_chart.specs.Drawing.{IsChart, called_given}
use Rattle.pt_script.specs.Called.{names_in}
use Rattle.pt_report.specs.Called.{called_by}
use Rattle.pt_report.proofs.chart.drawing_of.Goals as goal

pub returns : goal.returns
returns g c =
    let runners = c.args.runners.now in
    let names : map string_bytes c.as_slice.result.now ≡ names_in c.args.script.now = ap (map string_bytes) c.as_slice.ensures.value ∙ c.in_ok-names.ensures in
    let called : map called_given c.as_slice-2.result.now ≡ called_by (names_in c.args.script.now) runners =
    ap (map called_given) c.as_slice-2.ensures.value ∙ c.in_ok-called.ensures ∙ ap (λ ns. called_by ns runners) names in
    subst (λ by. IfOk c.chart_watched.result (λ text. IsChart c.args.events.now by (string_bytes text))) called c.chart_watched.ensures
