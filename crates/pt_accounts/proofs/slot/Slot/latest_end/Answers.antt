-- `Slot::latest_end`: its contract, and its checked operations.
use Rattle.std.proofs.Common.{◌≡◌, ◌∙◌, ◌-◌, ap, sym, arith, length, ◌+◌}
use Rattle.pt_accounts.specs.DeskLives.{latest_end}
use Rattle.pt_accounts.specs.SlotState.{lives_of}
use Rattle.pt_accounts.proofs.SlotLives.{latest_none, latest_some, living_fits}
use Rattle.pt_accounts.proofs.slot.Slot.latest_end.Goals as goal

pub overflow_sub-ended : goal.overflow_sub-ended
overflow_sub-ended c =
    let s = c.self.inside in
    let f = living_fits s.desk s.slot (length s.forgotten.listed + s.forgotten.room) s.forgotten.listed s.ended.items s.newest c.self.invariant in
    let n = ap length c.self.view_is in
    let l = c.len.ensures.len in
    let k = c.living.ensures in
    omega arith

pub returns-then-ended-eq0 : goal.returns-then-ended-eq0
returns-then-ended-eq0 c =
    let s = c.self.inside in
    let n : length (lives_of s.desk s.slot s.forgotten.listed s.ended.items s.newest) ≡ length c.args.self.now = ap length c.self.view_is in
    let l = c.len.ensures.len in
    let k = c.living.ensures in
    sym (sym (ap latest_end c.self.view_is) ∙ latest_none s.desk s.slot (length s.forgotten.listed + s.forgotten.room) s.forgotten.listed s.ended.items s.newest c.self.invariant (c.len.result - c.living.result) (omega arith) c.if-ended-eq0.true)

pub returns : goal.returns
returns c =
    let s = c.self.inside in
    let n : length (lives_of s.desk s.slot s.forgotten.listed s.ended.items s.newest) ≡ length c.args.self.now = ap length c.self.view_is in
    let l = c.len.ensures.len in
    let k = c.living.ensures in
    let z = c.if-ended-eq0.false in
    sym (sym (ap latest_end c.self.view_is) ∙ latest_some s.desk s.slot (length s.forgotten.listed + s.forgotten.room) s.forgotten.listed s.ended.items s.newest c.self.invariant (c.len.result - c.living.result) (omega arith) (omega arith))
