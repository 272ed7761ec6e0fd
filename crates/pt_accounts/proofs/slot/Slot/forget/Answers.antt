-- `Slot::forget`: its contract, and the invariant of `self`.
use Rattle.std.proofs.Common.{◌∙◌, ◌+◌, ap, sym, subst, length, map, List}
use Rattle.pt_accounts.specs.LifeState.{LifeState}
use Rattle.pt_accounts.specs.DeskLives.{forgotten}
use Rattle.pt_accounts.specs.SlotState.{IsSlot, lives_of}
use Rattle.pt_accounts.proofs.SlotLives.{forgets, forgot}
use Rattle.pt_accounts.proofs.slot.Slot.forget.Goals as goal

pub invariant_of-self : goal.invariant_of-self
invariant_of-self c =
    let s = c.self.inside in
    let q = c.keep_ends.new.forgotten in
    subst (λ (l : List LifeState). IsSlot s.desk s.slot q.listed (length q.listed + q.room) l c.keep_ends.new.newest) (sym c.keep_ends.ensures.ended)
    (forgot s.desk s.slot (length s.forgotten.listed + s.forgotten.room) s.forgotten.listed s.ended.items s.newest c.self.invariant q.listed c.keep_ends.new.newest (length q.listed + q.room) c.keep_ends.ensures.listed c.keep_ends.ensures.newest c.keep_ends.ensures.room)

pub returns : goal.returns
returns c =
    let s = c.self.inside in
    let q = c.keep_ends.new.forgotten in
    ap (λ (l : List LifeState). lives_of s.desk s.slot q.listed l c.keep_ends.new.newest) c.keep_ends.ensures.ended
    ∙ forgets s.desk s.slot (length s.forgotten.listed + s.forgotten.room) s.forgotten.listed s.ended.items s.newest c.self.invariant q.listed c.keep_ends.new.newest c.keep_ends.ensures.listed c.keep_ends.ensures.newest
    ∙ ap (map forgotten) c.self.view_is
