-- `print_page`: its clause `text`.
use Rattle.std.proofs.Common.{◌≡◌, [], ◌++◌, map, ap, subst, ◌∙◌}
use Rattle.std.specs.Io.KnownBytes.{Appends}
use Rattle.pt_gathered.specs.LeftOvers.{all_left}
use Rattle.pt_script.specs.Called.{names_in}
use Rattle.pt_render.specs.Pages.{page_text, step_told, steps_after}
use Rattle.pt_report.specs.Called.{called_by}
use Rattle.pt_report.proofs.Writing.{on_ok_then}
use Rattle.pt_report.proofs.pages.print_page.Goals as goal

pub returns-clause-text : goal.returns-clause-text
returns-clause-text g c =
    let old = g.W.Write.contents c.args.out.now in
    let new = g.W.Write.contents c.print_named.new.out in
    let called = called_by (names_in c.args.script.now) c.args.runners.now in
    let merged = c.in_ok-events.ensures in
    let events = c.args.kept.items ++ merged.0 in
    let told : map step_told c.as_slice-2.result.now ≡ steps_after [] events = ap (map step_told) c.as_slice-2.ensures.value ∙ c.in_ok-told.ensures ∙ ap (steps_after []) (c.as_slice.ensures.value ∙ merged.2) in
    let letters : c.as_slice-3.result.now ≡ all_left c.args.gathered.now = c.as_slice-3.ensures.value ∙ c.in_ok-letters.ensures in
    on_ok_then c.print_named.result c.print_named.ensures.text (λ p. (
      merged.0,
      merged.1,
      subst (λ ls. Appends old new (page_text (steps_after [] events) ls called)) letters (subst (λ ts. Appends old new (page_text ts c.as_slice-3.result.now called)) told p),
    ))
