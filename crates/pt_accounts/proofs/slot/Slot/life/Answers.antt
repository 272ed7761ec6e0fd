-- `Slot::life`: its contract.
use Rattle.std.proofs.Common.{◌-◌, subst, arith, inl, inr, refl, length, ◌+◌}
use Rattle.std.specs.Option.{option_map}
use Rattle.pt_accounts.specs.Table.{of_version}
use Rattle.pt_accounts.specs.SlotState.{IsForgotten}
use Rattle.pt_accounts.proofs.SlotLives.{early, late_known}
use Rattle.pt_accounts.proofs.slot.Slot.life.Goals as goal

pub returns-then-version-before : goal.returns-then-version-before
returns-then-version-before c =
    let s = c.self.inside in
    inr (refl, subst (λ l. IsForgotten (of_version l c.args.version)) c.self.view_is (early s.desk s.slot (length s.forgotten.listed + s.forgotten.room) s.forgotten.listed s.ended.items s.newest c.self.invariant c.args.version (omega arith)))

pub returns : goal.returns
returns c =
    let s = c.self.inside in
    inl (late_known s.desk s.slot (length s.forgotten.listed + s.forgotten.room) s.forgotten.listed s.ended.items s.newest c.self.invariant c.args.self.now c.args.version (c.args.version - c.len-before.result - 1) c.as_slice.result.now
    (option_map (λ life. life.now) c.recent.result) c.self.view_is (omega arith) c.as_slice.ensures.value c.recent.ensures)
