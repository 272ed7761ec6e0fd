-- `rows_of`: its contract.
use Rattle.std.proofs.Common.{◌∙◌, ap, false, get_or, length}
use Rattle.std.specs.Vec.{vec_items}
use Rattle.pt_chart.specs.Rows.{follows_sending}
use Rattle.pt_chart.proofs.Rowing.{rows_told}
use Rattle.pt_chart.proofs.standing.rows_of.Goals as goal

pub returns : goal.returns
returns c =
    let is = c.as_slice.ensures.value in
    rows_told vec_items c.args.events.now (follows_sending c.args.events.now c.args.columns.now) c.as_slice.result.now c.births_in_front.result c.numbered.result c.births_in_front.ensures
    (ap length is ∙ c.in_ok-follows.ensures.each) (λ i h. ap (λ xs. get_or xs i false) is ∙ c.in_ok-follows.ensures.noted i h) c.numbered.ensures
