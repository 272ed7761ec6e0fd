-- `Slot::forget_reasons`: its contract, and the invariant of `self`.
use Rattle.std.proofs.Common.{◌∙◌, ◌+◌, [], ap, sym, subst, length, map, replicate, List}
use Rattle.pt_signal.specs.declared.reason.Reason.{Reason}
use Rattle.pt_signal.specs.declared.reason.Reason.TheVariants.{Noproc}
use Rattle.pt_accounts.specs.LifeState.{LifeState}
use Rattle.pt_accounts.specs.DeskLives.{bare}
use Rattle.pt_accounts.specs.SlotState.{IsSlot, lives_of}
use Rattle.pt_accounts.proofs.SlotLives.{forgets, forgot, bare_lives, bare_slot, bare_forgotten}
use Rattle.pt_accounts.proofs.slot.Slot.forget_reasons.Goals as goal

pub invariant_of-self : goal.invariant_of-self
invariant_of-self c =
    let s = c.self.inside in
    let k = c.keep_ends in
    let q = k.new.forgotten in
    let f = c.fill.new.self in
    subst (λ (l : List LifeState). IsSlot s.desk s.slot f.listed (length f.listed + f.room) l k.new.newest) (sym k.ensures.ended)
    (bare_slot s.desk s.slot q.room q.listed f.listed k.new.newest f.room
    (forgot s.desk s.slot (length s.forgotten.listed + s.forgotten.room) s.forgotten.listed s.ended.items s.newest c.self.invariant q.listed k.new.newest (length q.listed + q.room) k.ensures.listed k.ensures.newest k.ensures.room)
    c.fill.ensures.listed c.fill.ensures.room)

pub returns : goal.returns
returns c =
    let s = c.self.inside in
    let k = c.keep_ends in
    let q = k.new.forgotten in
    let left = k.ensures.newest in
    ap (λ (l : List LifeState). lives_of s.desk s.slot c.fill.new.self.listed l k.new.newest) k.ensures.ended
    ∙ ap (λ (rs : List Reason). lives_of s.desk s.slot rs [] k.new.newest) c.fill.ensures.listed
    ∙ ap (lives_of s.desk s.slot (replicate (length q.listed) Noproc) []) left
    ∙ bare_lives s.desk s.slot q.listed s.newest
    ∙ ap (λ o. map bare (lives_of s.desk s.slot q.listed [] o)) (sym left)
    ∙ ap (map bare) (forgets s.desk s.slot (length s.forgotten.listed + s.forgotten.room) s.forgotten.listed s.ended.items s.newest c.self.invariant q.listed k.new.newest k.ensures.listed left)
    ∙ bare_forgotten (lives_of s.desk s.slot s.forgotten.listed s.ended.items s.newest)
    ∙ ap (map bare) c.self.view_is
