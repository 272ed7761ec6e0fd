-- `drawing_of`: its contract.
use Rattle.std.proofs.Common.{map, ap, ◌∙◌}
use Rattle.std.specs.String.{string_bytes}
use Rattle.pt_chart.specs.Drawing.{all_letters, called_given, column_names, drawing_text, drawn, drawn_in, page_with}
use Rattle.pt_chart.proofs.Writing.{text_as}
use Rattle.pt_chart.proofs.drawing.drawing_of.Goals as goal

pub returns : goal.returns
returns g c =
    let events = c.args.events.now in
    let layout = c.args.layout.now in
    let called = map called_given c.args.called.now in
    let letters = all_letters layout in
    let page = page_with events layout letters in
    let parts = drawn events layout in
    let given_names = map (λ n. n.now) c.as_slice-3.result.now in
    let given_letters = c.as_slice-4.result.now in
    let given_parts = drawn_in layout.rows.items events layout.columns.items given_letters in
    text_as string_bytes _ _ _
    (ap (λ p. drawing_text p given_names given_parts) (c.in_ok-page.ensures ∙ ap (page_with events layout) (c.as_slice.ensures.value ∙ c.in_ok-letters.ensures))
    ∙ ap (λ ls. drawing_text page given_names (drawn_in layout.rows.items events layout.columns.items ls)) (c.as_slice-4.ensures.value ∙ c.in_ok-letters.ensures)
    ∙ ap (λ ns. drawing_text page ns parts) (ap (map (λ n. n.now)) c.as_slice-3.ensures.value ∙ c.in_ok-names.ensures ∙ ap (column_names called) c.as_slice-2.ensures.value))
    c.drawing_with.ensures
