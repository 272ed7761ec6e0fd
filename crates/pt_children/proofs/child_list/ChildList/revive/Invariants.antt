-- `ChildList::revive`: what holds in its loop over `place`.
use Rattle.std.proofs.Common.{◌≡◌, ◌≤◌, length, min}
use Rattle.pt_children.specs.Children.{revived}
use Rattle.pt_children.proofs.child_list.ChildList.revive.Given as goal

abbrev pub invariant-loop-place : goal.invariant-loop-place
invariant-loop-place l = record {
  is : l.self ≡ revived l.initial.self l.first l.place;
  count : length l.self ≡ length l.initial.self;
  from : min l.first (length l.initial.self) ≤ l.place;
}
