-- `in_flight`: its loop over `letter`.
use Rattle.std.proofs.Common.{◌∙◌, arith}
use Rattle.pt_chart.proofs.Rows.{flight_more, no_letter}
use Rattle.pt_chart.proofs.drawing.in_flight.Goals as goal

pub loop-letter-preserved : goal.loop-letter-preserved
loop-letter-preserved c =
    c.and_flight-flights.ensures ∙ flight_more c.args.letters.now c.loop-letter.letter-index c.loop-letter.flights no_letter (omega arith) c.loop-letter.invariant
