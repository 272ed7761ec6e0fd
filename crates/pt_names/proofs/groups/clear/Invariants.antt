-- `clear`: what holds in its loop over `group`.
use Rattle.std.proofs.Common.{take}
use Rattle.pt_names.specs.Groups.{Clears}
use Rattle.pt_names.proofs.groups.clear.Given as goal

abbrev pub invariant-loop-group : goal.invariant-loop-group
invariant-loop-group l = Clears (take l.group-index l.groups) l.pid l.initial.table l.table
