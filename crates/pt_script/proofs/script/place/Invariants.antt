-- `place`: those before are on their desks.
use Rattle.std.proofs.Common.{◌≡◌, ◌++◌, drop, take}
use Rattle.pt_script.specs.Spreading.{placed}
use Rattle.pt_script.proofs.script.place.Given as goal

abbrev pub invariant-loop-desk : goal.invariant-loop-desk
invariant-loop-desk l = l.tops ≡ placed 0 (take l.desk l.fn.tops) ++ drop l.desk l.fn.tops
