-- `Slots::insert`: its clauses `cases` and `never_falls`, and the invariant of `self`, and what its call of `insert_reserved` asks.
use Rattle.std.proofs.Common.{refl}
use Rattle.pt_slots.proofs.Steps.{room_for_free, inserted_filled, sound_filled, never_falls}
use Rattle.pt_slots.proofs.Slots.insert.Goals as goal

pub insert_reserved-slot-requires : goal.insert_reserved-slot-requires
insert_reserved-slot-requires g c = room_for_free _ _ _ _ c.self.invariant (rw (← c.self.view_is) at c.in-Ready.ensures)

pub invariant_of-self : goal.invariant_of-self
invariant_of-self g c =
    sound_filled _ _ _ _ c.self.invariant (rw (← c.self.view_is) at c.in-Ready.ensures) c.args.value c.self.inside.entries _ _ _ refl refl
    c.insert_reserved-slot.ensures.key c.insert_reserved-slot.ensures.updates c.insert_reserved-slot.ensures.capacity c.index.ensures

pub returns-clause-cases : goal.returns-clause-cases
returns-clause-cases g c =
    inserted_filled _ _ _ _ c.self.invariant (rw (← c.self.view_is) at c.in-Ready.ensures) c.args.value c.self.inside.entries _ _ _ refl refl
    c.insert_reserved-slot.ensures.key c.insert_reserved-slot.ensures.updates c.insert_reserved-slot.ensures.capacity c.index.ensures

pub returns-clause-never_falls : goal.returns-clause-never_falls
returns-clause-never_falls g c =
    never_falls _ _ _ _ c.self.invariant (rw (← c.self.view_is) at c.in-Ready.ensures) c.args.value c.self.inside.entries _ _ _ refl refl
    c.insert_reserved-slot.ensures.key c.insert_reserved-slot.ensures.updates c.insert_reserved-slot.ensures.capacity c.index.ensures
