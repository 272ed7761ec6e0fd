-- `print_named`: its clause `text`.
use Rattle.std.proofs.Common.{◌≡◌, map, ap, subst, ◌∙◌}
use Rattle.std.specs.Io.KnownBytes.{Appends}
use Rattle.std.specs.String.{string_bytes}
use Rattle.pt_chart.specs.Drawing.{called_given}
use Rattle.pt_script.specs.Called.{names_in}
use Rattle.pt_render.specs.Pages.{page_text, step_told}
use Rattle.pt_report.specs.Called.{called_by}
use Rattle.pt_report.proofs.pages.print_named.Goals as goal

pub returns-in-Ok-clause-text : goal.returns-in-Ok-clause-text
returns-in-Ok-clause-text g c =
    let runners = c.args.runners.now in
    let names : map string_bytes c.as_slice.result.now ≡ names_in c.args.script.now = ap (map string_bytes) c.as_slice.ensures.value ∙ c.in_ok-names.ensures in
    let called : map called_given c.as_slice-2.result.now ≡ called_by (names_in c.args.script.now) runners =
    ap (map called_given) c.as_slice-2.ensures.value ∙ c.in_ok-called.ensures ∙ ap (λ ns. called_by ns runners) names in
    subst (λ by. Appends (g.W.Write.contents c.args.out.now) (g.W.Write.contents c.write_whole.new.out) (page_text (map step_told c.args.told.now) c.args.letters.now by)) called c.in-Ok.ensures
