-- `columns_with`: what holds in its loop over `place`.
use Rattle.std.proofs.Common.{◌≡◌, ◌≤◌, take, map, length, vec_len}
use Rattle.std.specs.Prelude.{All}
use Rattle.std.specs.Vec.{vec_capacity}
use Rattle.pt_chart.specs.Chart.{IsColumn, everyone}
use Rattle.pt_chart.specs.declared.layout.Column.{Column}
use Rattle.pt_chart.proofs.layout.columns_with.Given as goal

abbrev pub invariant-loop-place : goal.invariant-loop-place
invariant-loop-place l = record {
  pids : map (λ (c : Column). c.pid) l.columns.items ≡ take l.place l.list;
  columns : l.pids ≡ everyone l.events → All (λ (c : Column). IsColumn l.events c) l.columns.items;
  count : vec_len l.columns ≡ l.place;
  room : length l.list ≤ vec_capacity l.columns;
}
