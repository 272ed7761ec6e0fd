-- `Slot::len`: its clause `len`.
use Rattle.std.proofs.Common.{◌≡◌, ap, arith, length}
use Rattle.pt_accounts.specs.SlotState.{lives_of}
use Rattle.pt_accounts.proofs.SlotLives.{length_lives}
use Rattle.pt_accounts.proofs.slot.Slot.len.Goals as goal

pub returns-clause-len : goal.returns-clause-len
returns-clause-len c =
    let s = c.self.inside in
    let n : length (lives_of s.desk s.slot s.forgotten.listed s.ended.items s.newest) ≡ length c.args.self.now = ap length c.self.view_is in
    let l = length_lives s.desk s.slot s.forgotten.listed s.ended.items s.newest in
    let b = s.ended.ok.0 in
    omega arith
