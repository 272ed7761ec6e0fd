-- `look`: what holds in its loop over `d` and `e`.
use Rattle.std.proofs.Common.{◌≡◌, ℕ, ◌<◌, map}
use Rattle.pt_carrier.specs.Node.{kept}
use Rattle.pt_carrier.specs.Reunion.{WholeAt}
use Rattle.pt_carrier.proofs.reunion.look.Given as goal

abbrev pub invariant-loop-d : goal.invariant-loop-d
invariant-loop-d l = record {
  kept : map kept l.pairs ≡ map kept l.initial.pairs;
  whole : (i j : ℕ) → i < l.d → j < l.desks → WholeAt l.pairs i j;
}

abbrev pub invariant-loop-e : goal.invariant-loop-e
invariant-loop-e l = record {
  kept : map kept l.pairs ≡ map kept l.fn.pairs;
  whole : (i j : ℕ) → i < l.d → j < l.desks → WholeAt l.pairs i j;
  row : (j : ℕ) → j < l.e → WholeAt l.pairs l.d j;
}
