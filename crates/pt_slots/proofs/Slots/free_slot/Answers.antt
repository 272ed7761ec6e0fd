-- `Slots::free_slot`: its contract.
use Rattle.std.proofs.Common.{arith, sym, ◌∙◌}
use Rattle.pt_slots.proofs.Offers.{free_slot_offered, free_slot_first}
use Rattle.pt_slots.proofs.Slots.free_slot.Goals as goal

pub returns-then-vacant-self : goal.returns-then-vacant-self
returns-then-vacant-self g c =
    let here = c.vacant_key-vacant.ensures in
    rw (← c.self.view_is) (here.value ∙ sym (free_slot_offered _ (omega (arith, here.value, c.if-vacant-self.true)) (rw here.value at here.vacant)))

pub returns-else-vacant-self : goal.returns-else-vacant-self
returns-else-vacant-self g c =
    let here = c.vacant_key-vacant.ensures in
    rw (← c.self.view_is) (rw (← c.self.view_is) at c.first_free.ensures ∙ sym (free_slot_first _ (omega (arith, here.value, c.if-vacant-self.false))))
