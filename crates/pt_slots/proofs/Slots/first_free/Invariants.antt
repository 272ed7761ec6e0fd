-- `Slots::first_free`: what holds in its loop over `slot`.
use Rattle.std.proofs.Common.{◌≤◌}
use Rattle.pt_slots.specs.State.{first_free}
use Rattle.pt_slots.proofs.Slots.first_free.Given as goal

-- no slot below this one is free
abbrev pub invariant-loop-slot : goal.invariant-loop-slot
invariant-loop-slot g l = l.slot ≤ first_free l.self.slots
