-- `list_names_of`: what holds in its loop over `at`.
use Rattle.std.proofs.Common.{◌≡◌, ◌++◌, ◌<◌, ◌≤◌, ℕ, List, length, map, take, get_or}
use Rattle.pt_events.specs.declared.event.Stamped.{Stamped}
use Rattle.pt_chart.specs.declared.layout.Column.{Column}
use Rattle.pt_chart.specs.Drawing.{each_numbered, name_in}
use Rattle.pt_chart.specs.Mentioning.{AreNamed}
use Rattle.pt_chart.proofs.drawing.list_names_of.Given as goal

abbrev pub invariant-loop-at : goal.invariant-loop-at
invariant-loop-at l = record {
  listed : (block : List Stamped) → AreNamed block (map (λ (x : Column). x.pid) l.columns) l.named
      → l.parts.items ≡ l.fn.parts.items ++ each_numbered (name_in block l.row) (take l.behind l.columns);
  within : l.behind ≤ length l.columns;
  left : (j : ℕ) → j < l.at → get_or l.named j 0 < l.behind;
}
