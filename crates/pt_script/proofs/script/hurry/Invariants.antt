-- `hurry`: those before are hurried.
use Rattle.std.proofs.Common.{◌≡◌, ◌++◌, drop, map, take}
use Rattle.pt_script.specs.Unrolling.{hurried_operation}
use Rattle.pt_script.proofs.script.hurry.Given as goal

abbrev pub invariant-loop-place : goal.invariant-loop-place
invariant-loop-place l = l.operations ≡ map hurried_operation (take l.place l.fn.operations) ++ drop l.place l.fn.operations
