-- `Slots::new`: its contract.
use Rattle.std.proofs.Common.{refl}
use Rattle.pt_slots.proofs.Offers.{is_empty}
use Rattle.pt_slots.proofs.Slots.new.Goals as goal

pub returns : goal.returns
returns g c = is_empty _ _ _ c.new.ensures.empty c.new-2.ensures.items c.new.ensures.first_key refl refl c.requires.some_capacity c.requires.capacity c.requires.top_version (c.ranges.top_version).fits
