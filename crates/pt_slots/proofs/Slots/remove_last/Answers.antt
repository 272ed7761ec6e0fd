-- `Slots::remove_last`: its contract, and the invariant of `self`, and what its call of `index_mut` asks, and its checked operations.
use Rattle.std.proofs.Common.{refl, sym, ◌∙◌}
use Rattle.pt_slots.proofs.Steps.{found, holds, same_value, removed_spent, sound_spent, retired_fits}
use Rattle.pt_slots.proofs.Slots.remove_last.Goals as goal

pub overflow_add-self : goal.overflow_add-self
overflow_add-self g c =
    let live = found _ (rw (← c.self.view_is) at (sym c.contains.ensures ∙ c.if-not-contains.false)) in
    record { fits = retired_fits _ c.args.key live.0 _ _ c.self.invariant live.1 (rw (← c.self.view_is) at c.requires) }

pub index_mut-requires : goal.index_mut-requires
index_mut-requires g c =
    let live = found _ (rw (← c.self.view_is) at (sym c.contains.ensures ∙ c.if-not-contains.false)) in
    rw (holds _ c.args.key live.0 live.1).entry refl

pub invariant_of-self : goal.invariant_of-self
invariant_of-self g c =
    let live = found _ (rw (← c.self.view_is) at (sym c.contains.ensures ∙ c.if-not-contains.false)) in
    rw c.replace.ensures.after (sound_spent _ c.args.key live.0 _ _ c.self.invariant live.1 (rw (← c.self.view_is) at c.requires))

pub returns : goal.returns
returns g c =
    let live = found _ (rw (← c.self.view_is) at (sym c.contains.ensures ∙ c.if-not-contains.false)) in
    let value = c.replace.ensures.value ∙ same_value _ _ _ c.index_mut.ensures.value (holds _ c.args.key live.0 live.1).entry in
    rw (← c.self.view_is, value, c.replace.ensures.after) (removed_spent _ c.args.key live.0 _ _ c.self.invariant live.1 (rw (← c.self.view_is) at c.requires))
