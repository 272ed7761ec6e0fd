-- `list_grounds`: what holds in its loop over `place`.
use Rattle.std.proofs.Common.{◌≡◌, ◌++◌, take}
use Rattle.pt_chart.specs.Drawing.{each_numbered, ground}
use Rattle.pt_chart.proofs.Naming.{AreDesks}
use Rattle.pt_chart.proofs.drawing.list_grounds.Given as goal

abbrev pub invariant-loop-place : goal.invariant-loop-place
invariant-loop-place l = record {
  listed : l.parts.items ≡ l.fn.parts.items ++ each_numbered (ground l.columns) (take l.place l.columns);
  desks : AreDesks (take l.place l.columns) l.desks.keys;
}
