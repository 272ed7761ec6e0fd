-- `Slots::remove`: its contract, and the invariant of `self`.
use Rattle.std.proofs.Common.{sym, rules, ◌≡◌, get_or}
use Rattle.pt_slots.proofs.Steps.{same_value, value_below_top, removed_freed, sound_freed}
use Rattle.pt_slots.proofs.Slots.remove.Goals as goal

pub invariant_of-self-2 : goal.invariant_of-self-2
invariant_of-self-2 g c =
    let latest : get_or c.self.inside.versions.items c.args.key.slot 0 ≡ c.args.key.version = search rules in
    let live = value_below_top _ c.args.key _ _ _ c.self.invariant (sym c.in_ok-value.ensures.value) latest c.if-key-self.false in
    rw (c.in_ok-value.ensures.slots, c.in_ok-value.ensures.key_is_next, c.try_remove.ensures.capacity) (sound_freed _ c.args.key live.0 _ _ c.self.invariant live.2 c.if-key-self.false)

pub returns : goal.returns
returns g c =
    let latest : get_or c.self.inside.versions.items c.args.key.slot 0 ≡ c.args.key.version = search rules in
    let live = value_below_top _ c.args.key _ _ _ c.self.invariant (sym c.in_ok-value.ensures.value) latest c.if-key-self.false in
    let value = same_value _ _ _ c.in-Some.is live.1 in
    rw (← c.self.view_is, value, c.in_ok-value.ensures.slots, c.in_ok-value.ensures.key_is_next) (removed_freed _ c.args.key live.0 _ _ c.self.invariant live.2 c.if-key-self.false)
