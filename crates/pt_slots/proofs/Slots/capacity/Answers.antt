-- `Slots::capacity`: its clause `beyond`.
use Rattle.std.proofs.Common.{arith}
use Rattle.std.proofs.lemmas.List.{get_or_past}
use Rattle.pt_slots.specs.State.{issued}
use Rattle.pt_slots.proofs.Slots.capacity.Goals as goal

pub returns-clause-beyond : goal.returns-clause-beyond
unfolding issued
returns-clause-beyond g c =
    rw (← c.self.view_is) (λ slot h. get_or_past c.self.inside.versions.items slot 0 (omega (arith, h, c.self.invariant.slots_fit)))
