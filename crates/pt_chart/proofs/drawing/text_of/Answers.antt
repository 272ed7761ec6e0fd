-- `text_of`: its contract.
use Rattle.std.proofs.Common.{◌++◌, map, ap, ◌∙◌}
use Rattle.pt_chart.specs.Drawing.{drawing_text}
use Rattle.pt_chart.proofs.drawing.text_of.Goals as goal

pub returns-in-Ok : goal.returns-in-Ok
returns-in-Ok g c =
    c.in-Ok.ensures ∙ ap (λ z. z ++ drawing_text c.args.page.now (map (λ n. n.now) c.args.names.now) c.args.parts.now) c.new-text.ensures.bytes
