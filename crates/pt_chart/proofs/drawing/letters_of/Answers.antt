-- `letters_of`: its contract.
use Rattle.std.proofs.Common.{ap, ◌∙◌}
use Rattle.std.specs.Vec.{vec_items}
use Rattle.pt_chart.specs.Drawing.{each_numbered, letters_of, tipped}
use Rattle.pt_chart.specs.Rows.{count_of}
use Rattle.pt_chart.proofs.Writing.{text_as}
use Rattle.pt_chart.proofs.drawing.letters_of.Goals as goal

pub returns : goal.returns
returns c =
    let sent = c.as_slice-2.result.now in
    let rows = c.as_slice-rows.result.now in
    text_as vec_items _ _ _
    (ap (λ n. each_numbered (tipped n sent) sent) c.count_of.ensures
    ∙ ap (λ ls. each_numbered (tipped (count_of rows) ls) ls) (c.as_slice-2.ensures.value ∙ c.in_ok-sent.ensures)
    ∙ ap (letters_of rows) c.as_slice.ensures.value ∙ ap (λ rs. letters_of rs c.args.layout.now.columns.items) c.as_slice-rows.ensures.value)
    c.placed.ensures
