-- `letters_sent`: what holds in its loop over `place`.
use Rattle.std.proofs.Common.{◌≡◌, take}
use Rattle.pt_chart.specs.Drawing.{each_numbered, letters}
use Rattle.pt_chart.proofs.drawing.letters_sent.Given as goal

abbrev pub invariant-loop-place : goal.invariant-loop-place
invariant-loop-place l = l.letters.items ≡ each_numbered (letters l.rows l.columns) (take l.place l.columns)
