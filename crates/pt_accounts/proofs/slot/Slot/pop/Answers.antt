-- `Slot::pop`: its contract, and the invariant of `self`.
use Rattle.std.proofs.Common.{◌∙◌, length, ◌+◌}
use Rattle.pt_accounts.proofs.SlotLives.{newest_lives, popped_lives, popped_slot}
use Rattle.pt_accounts.proofs.slot.Slot.pop.Goals as goal

pub invariant_of-self : goal.invariant_of-self
invariant_of-self c =
    let s = c.self.inside in
    popped_slot s.desk s.slot (length s.forgotten.listed + s.forgotten.room) s.forgotten.listed s.ended.items s.newest c.self.invariant c.pop.new.self.items c.pop.result c.pop.ensures.items

pub returns : goal.returns
returns c lives life is =
    let s = c.self.inside in
    let r = c.requires in
    let newest = newest_lives s.desk s.slot (length s.forgotten.listed + s.forgotten.room) s.forgotten.listed s.ended.items s.newest c.self.invariant r.0 r.1 (c.self.view_is ∙ r.2) r.3 in
    popped_lives s.desk s.slot (length s.forgotten.listed + s.forgotten.room) s.forgotten.listed s.ended.items s.newest c.self.invariant lives life r.1 c.pop.new.self.items c.pop.result newest c.pop.ensures.items (c.self.view_is ∙ is)
