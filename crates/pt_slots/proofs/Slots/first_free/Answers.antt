-- `Slots::first_free`: its contract, and its loop over `slot`, and what its call of `unreachable` asks, and its checked operations.
use Rattle.std.proofs.Common.{arith, ◌≤◌}
use Rattle.pt_slots.specs.State.{first_free}
use Rattle.pt_slots.proofs.Counts.{first_free_within, first_free_later, first_free_here}
use Rattle.pt_slots.proofs.Slots.first_free.Goals as goal

pub loop-slot-init : goal.loop-slot-init
loop-slot-init g c = omega arith

pub returns-then-not-contains : goal.returns-then-not-contains
returns-then-not-contains g c =
    let behind : c.loop-slot.slot ≤ first_free c.self.inside.entries.slots = rw (← c.self.view_is) at c.loop-slot.invariant in
    rw (← c.self.view_is) (first_free_here _ _ behind (λ some. absurd (let held = c.contains.ensures.1 some in let none = c.if-not-contains.true in cc)))

pub loop-slot-preserved : goal.loop-slot-preserved
loop-slot-preserved g c =
    let behind : c.loop-slot.slot ≤ first_free c.self.inside.entries.slots = rw (← c.self.view_is) at c.loop-slot.invariant in
    let later = first_free_later _ _ behind (c.contains.ensures.0 c.if-not-contains.false) in
    rw (← c.self.view_is) (omega (arith, later))

pub unreachable-requires : goal.unreachable-requires
unreachable-requires g c =
    let room = rw (← c.self.view_is) at c.requires in
    let behind : c.loop-slot.slot ≤ first_free c.self.inside.entries.slots = rw (← c.self.view_is) at c.loop-slot.invariant in
    omega (arith, room, behind, first_free_within c.self.inside.entries.slots, c.loop-slot-test.false)
