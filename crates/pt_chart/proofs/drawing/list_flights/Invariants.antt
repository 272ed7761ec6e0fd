-- `list_flights`: what holds in its loop over `letter`.
use Rattle.std.proofs.Common.{◌≡◌, ◌++◌, map, take}
use Rattle.pt_chart.specs.declared.part.Part.TheVariants.{Flight}
use Rattle.pt_chart.proofs.drawing.list_flights.Given as goal

abbrev pub invariant-loop-letter : goal.invariant-loop-letter
invariant-loop-letter l = l.parts.items ≡ l.fn.parts.items ++ map Flight (take l.letter-index l.letters)
