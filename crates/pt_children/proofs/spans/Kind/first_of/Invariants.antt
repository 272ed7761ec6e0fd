-- `Kind::first_of`: what holds in its loop over `place`.
use Rattle.pt_children.specs.Spans.{NoneBetween, is_kind}
use Rattle.pt_children.proofs.spans.Kind.first_of.Given as goal

abbrev pub invariant-loop-place : goal.invariant-loop-place
invariant-loop-place l = NoneBetween (is_kind l.self) l.first l.place l.children
