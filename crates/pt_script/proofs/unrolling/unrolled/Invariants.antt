-- `unrolled`: what is written out, and then the rest, is the whole.
use Rattle.std.proofs.Common.{◌≡◌, ◌≤◌, drop}
use Rattle.pt_script.specs.Unrolling.{unrolled_plans}
use Rattle.pt_script.specs.declared.limits.TheConstants.{MAX_OPERATIONS}
use Rattle.pt_script.proofs.UnrollingFacts.{behind}
use Rattle.pt_script.proofs.unrolling.unrolled.Given as goal

abbrev pub invariant-loop-number : goal.invariant-loop-number
invariant-loop-number l = (l.left ≤ MAX_OPERATIONS) × (behind l.written.items (unrolled_plans l.left l.number (drop l.number l.processes)) ≡ unrolled_plans MAX_OPERATIONS 0 l.processes)
