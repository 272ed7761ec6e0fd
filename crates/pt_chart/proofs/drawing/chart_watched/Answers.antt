-- `chart_watched`: its contract.
use Rattle.std.proofs.Common.{map}
use Rattle.std.specs.String.{string_bytes}
use Rattle.pt_chart.specs.Drawing.{called_given}
use Rattle.pt_chart.proofs.Writing.{charted}
use Rattle.pt_chart.proofs.drawing.chart_watched.Goals as goal

pub returns : goal.returns
returns g c = charted string_bytes c.args.events.now (map called_given c.args.called.now) c.in_ok-layout.layout c.drawing_of.result c.in_ok-layout.ensures.layout c.in_ok-layout.ensures.legal c.drawing_of.ensures
