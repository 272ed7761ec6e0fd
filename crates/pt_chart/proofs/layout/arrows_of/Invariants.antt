-- `arrows_of`: what holds in its loop over `k`.
use Rattle.std.proofs.Common.{◌≡◌, ◌≤◌, [], take, length, vec_len}
use Rattle.std.specs.Vec.{vec_capacity}
use Rattle.pt_chart.specs.Chart.{arrows}
use Rattle.pt_chart.specs.Receiving.{Awaits}
use Rattle.pt_chart.proofs.layout.arrows_of.Given as goal

abbrev pub invariant-loop-k : goal.invariant-loop-k
invariant-loop-k l = record {
  made : l.arrows.items ≡ arrows l.events l.pids l.fn.from [] (take l.k l.sent);
  count : vec_len l.arrows ≡ l.k;
  room : length l.sent ≤ vec_capacity l.arrows;
  waits : Awaits l.events l.fn.from (take l.k l.sent) l.receipts;
}
