-- `Slot::push`: its clause `added`, and the invariant of `self`.
use Rattle.std.proofs.Common.{◌∙◌, ◌++◌, ◌∷◌, [], Some, List, ap, sym, subst, arith, length, ◌+◌}
use Rattle.pt_accounts.specs.LifeState.{LifeState}
use Rattle.pt_accounts.specs.SlotState.{IsSlot, lives_of}
use Rattle.pt_accounts.specs.Steps.{IsNextOf}
use Rattle.pt_accounts.proofs.SlotLives.{pushed_lives, pushed_slot}
use Rattle.pt_accounts.proofs.slot.Slot.push.Goals as goal

pub invariant_of-self-2 : goal.invariant_of-self-2
invariant_of-self-2 c =
    let s = c.self.inside in
    let f = c.reserve.new.self in
    let n : IsNextOf c.args.pid (lives_of s.desk s.slot s.forgotten.listed s.ended.items s.newest) = subst (IsNextOf c.args.pid) (sym c.self.view_is) c.requires.next in
    let ok = c.in_ok-reserve.ensures.room in
    let a = c.len.ensures in
    let b = s.ended.ok.0 in
    subst (λ rs. IsSlot c.args.pid.shard c.args.pid.slot rs (length f.listed + f.room) c.move_newest.new.ended.items (Some c.args.life)) (sym c.in_ok-reserve.ensures.listed)
    (subst (λ es. IsSlot c.args.pid.shard c.args.pid.slot s.forgotten.listed (length f.listed + f.room) es (Some c.args.life)) (sym c.in_ok-move_newest.ensures.moved)
    (pushed_slot s.desk s.slot (length s.forgotten.listed + s.forgotten.room) s.forgotten.listed s.ended.items s.newest c.self.invariant c.args.pid c.args.life (length f.listed + f.room) c.requires.pid (omega arith) n (omega (arith, ok, a, b, ap length c.in_ok-reserve.ensures.listed))))

pub returns-clause-added : goal.returns-clause-added
returns-clause-added c =
    let s = c.self.inside in
    let f = c.reserve.new.self in
    let n : IsNextOf c.args.pid (lives_of s.desk s.slot s.forgotten.listed s.ended.items s.newest) = subst (IsNextOf c.args.pid) (sym c.self.view_is) c.requires.next in
    ap (λ rs. lives_of c.args.pid.shard c.args.pid.slot rs c.move_newest.new.ended.items (Some c.args.life)) c.in_ok-reserve.ensures.listed
    ∙ ap (λ es. lives_of c.args.pid.shard c.args.pid.slot s.forgotten.listed es (Some c.args.life)) c.in_ok-move_newest.ensures.moved
    ∙ pushed_lives s.desk s.slot (length s.forgotten.listed + s.forgotten.room) s.forgotten.listed s.ended.items s.newest c.self.invariant c.args.pid c.args.life c.requires.pid n
    ∙ ap (λ (l : List LifeState). l ++ c.args.life ∷ []) c.self.view_is
