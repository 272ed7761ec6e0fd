-- `hurry_all`: those before are hurried.
use Rattle.std.proofs.Common.{◌≡◌, ◌++◌, drop, map, take}
use Rattle.pt_script.specs.Unrolling.{hurried_plan}
use Rattle.pt_script.proofs.script.hurry_all.Given as goal

abbrev pub invariant-loop-number : goal.invariant-loop-number
invariant-loop-number l = l.processes ≡ map hurried_plan (take l.number l.fn.processes) ++ drop l.number l.fn.processes
