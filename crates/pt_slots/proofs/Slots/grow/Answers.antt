-- `Slots::grow`: its contract.
use Rattle.std.proofs.Common.{refl, rules, ap, arith, ◌≤◌, length}
use Rattle.pt_slots.proofs.Slots.grow.Goals as goal

pub returns : goal.returns
returns g c =
    let room : c.min-slots.result ≤ length c.make_room.new.versions.items = search rules in
    let longer : length c.self.inside.versions.items ≤ length c.make_room.new.versions.items = search rules in
    let slots = ap (λ s. s.slots) c.reserve.ensures.rest_kept in
    let vacant = ap (λ s. s.vacant_key) c.reserve.ensures.rest_kept in
    rw (← c.self.view_is) (record {
      free = rw c.vacant_key.ensures.value at c.vacant_key.ensures.vacant;
      has_version = omega (arith, c.vacant_key.ensures.value, c.if-vacant_key-slots.false, room);
      longer = longer;
      versions_kept = c.make_room.ensures.kept;
      slots_kept = slots;
      vacant_kept = vacant;
      capacity_kept = refl;
      top_version_kept = refl;
    })
