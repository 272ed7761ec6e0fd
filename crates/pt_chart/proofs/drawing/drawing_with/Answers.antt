-- `drawing_with`: its contract.
use Rattle.std.proofs.Common.{map, ap, ◌∙◌}
use Rattle.std.specs.String.{string_bytes}
use Rattle.pt_chart.specs.Drawing.{drawing_text}
use Rattle.pt_chart.proofs.Writing.{text_as}
use Rattle.pt_chart.proofs.drawing.drawing_with.Goals as goal

pub returns : goal.returns
returns g c =
    text_as string_bytes _ _ _ (ap (drawing_text c.args.page.now (map (λ n. n.now) c.args.names.now)) (c.as_slice.ensures.value ∙ c.in_ok-parts.ensures)) c.text_of.ensures
