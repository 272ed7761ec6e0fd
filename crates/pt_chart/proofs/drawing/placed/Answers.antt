-- `placed`: its loop over `at`.
use Rattle.std.proofs.Common.{◌∷◌, ◌++◌, [], ap, ◌∙◌, arith}
use Rattle.pt_chart.proofs.Numbering.{placed_next}
use Rattle.pt_chart.proofs.Rows.{flight_more}
use Rattle.pt_chart.proofs.drawing.placed.Goals as goal

pub loop-at-preserved : goal.loop-at-preserved
loop-at-preserved c =
    let listed = c.loop-at.placed.items in (
      placed_next c.args.rows c.args.letters.now c.loop-at.at c.loop-at.flights _ listed c.push.new.self.items (omega arith) c.loop-at.invariant.0 c.loop-at.invariant.1
          (c.in_ok-push.ensures.items ∙ ap (λ l. listed ++ l ∷ []) c.with_tip.ensures),
      c.and_flight-flights.ensures ∙ flight_more c.args.letters.now c.loop-at.at c.loop-at.flights _ (omega arith) c.loop-at.invariant.1,
    )
