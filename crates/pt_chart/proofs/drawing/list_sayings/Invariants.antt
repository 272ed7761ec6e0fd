-- `list_sayings`: what holds in its loop over `letter`.
use Rattle.std.proofs.Common.{◌≡◌, ◌++◌, map, take}
use Rattle.pt_chart.specs.declared.part.Part.TheVariants.{Saying}
use Rattle.pt_chart.proofs.drawing.list_sayings.Given as goal

abbrev pub invariant-loop-letter : goal.invariant-loop-letter
invariant-loop-letter l = l.parts.items ≡ l.fn.parts.items ++ map Saying (take l.letter-index l.letters)
