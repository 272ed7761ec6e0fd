-- `Slots::next`: its clauses `key` and `offers`, and its checked operations.
use Rattle.std.proofs.Common.{arith, ap, sym, ◌+◌, ◌<◌, ℕ, is_some, count_by, subst}
use Rattle.pt_slots.specs.State.{issued, state}
use Rattle.pt_slots.specs.Offers.{OffersTheFree}
use Rattle.pt_slots.proofs.Offers.{next_none, next_offered, free_slot_fits, offers_the_free}
use Rattle.pt_slots.proofs.Slots.next.Goals as goal

pub returns-then-len-self-clause-key : goal.returns-then-len-self-clause-key
returns-then-len-self-clause-key g c = rw (← c.self.view_is) (sym (next_none _ (omega (arith, c.len.ensures, c.if-len-self.true))))

pub returns-then-len-self-clause-offers : goal.returns-then-len-self-clause-offers
returns-then-len-self-clause-offers g c = subst OffersTheFree c.self.view_is (offers_the_free _ _ _ c.self.invariant)

pub overflow_add-result : goal.overflow_add-result
unfolding issued
overflow_add-result g c =
    let latest = rw (← c.self.view_is) at c.issued.ensures in
    let slot = rw (← c.self.view_is) at c.free_slot-slot.ensures in
    let room : count_by is_some c.self.inside.entries.slots < c.self.inside.capacity = omega (arith, c.self.invariant.within, c.len.ensures, c.if-len-self.false) in
    let fits = free_slot_fits (state c.self.inside.entries c.self.inside.versions.items c.self.inside.capacity c.self.inside.top_version) room in
    let below = c.self.invariant.free_below_top _ (rw (← slot) at fits.1) in
    omega (arith, latest, below, c.self.invariant.top_fits)

pub returns-clause-key : goal.returns-clause-key
unfolding issued
returns-clause-key g c = rw (← c.self.view_is) (sym (next_offered _ _ (record {
  room = omega (arith, c.len.ensures, c.if-len-self.false);
  slot_is = rw (← c.self.view_is) at c.free_slot-slot.ensures;
  version_is = ap (λ (n : ℕ). n + 1) (rw (← c.self.view_is) at c.issued.ensures);
})))

pub returns-clause-offers : goal.returns-clause-offers
returns-clause-offers g c = subst OffersTheFree c.self.view_is (offers_the_free _ _ _ c.self.invariant)
