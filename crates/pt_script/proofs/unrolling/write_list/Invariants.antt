-- `write_list`: what is left to write out is the same, and there are tags enough.
use Rattle.std.proofs.Common.{◌≡◌, ◌+◌, ◌≤◌}
use Rattle.pt_script.specs.Unrolling.{at_first, reached_view, unrolled_from}
use Rattle.pt_script.proofs.unrolling.write_list.Given as goal

abbrev pub decreases-loop-reached : goal.decreases-loop-reached
decreases-loop-reached l = l.left

abbrev pub invariant-loop-reached : goal.invariant-loop-reached
invariant-loop-reached l = (unrolled_from l.left l.process l.list (reached_view l.reached) ≡ unrolled_from l.fn.left l.process l.list at_first) × (l.reached.made + l.left ≤ l.fn.left)
