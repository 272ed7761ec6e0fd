-- `write_letters`: what holds in its loop over `letter`.
use Rattle.std.proofs.Common.{take}
use Rattle.std.specs.Io.KnownBytes.{Appends}
use Rattle.pt_render.specs.Pages.{left_json_lines}
use Rattle.pt_render.proofs.writing.write_letters.Given as goal

abbrev pub invariant-loop-letter : goal.invariant-loop-letter
invariant-loop-letter g l = Appends (g.W.Write.contents l.initial.out) (g.W.Write.contents l.out) (left_json_lines (take l.letter-index l.letters))
