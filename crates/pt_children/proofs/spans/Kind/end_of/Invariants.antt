-- `Kind::end_of`: what holds in its loop over `behind`.
use Rattle.std.proofs.Common.{◌-◌, ◌≤◌}
use Rattle.pt_children.specs.Spans.{NoneBetween, is_kind}
use Rattle.pt_children.proofs.spans.Kind.end_of.Given as goal

abbrev pub invariant-loop-behind : goal.invariant-loop-behind
invariant-loop-behind l = record {
  from : l.first ≤ l.behind;
  to : l.behind ≤ l.end;
  none : NoneBetween (is_kind l.self) l.behind l.end l.children;
}

abbrev pub decreases-loop-behind : goal.decreases-loop-behind
decreases-loop-behind l = l.behind - l.first
