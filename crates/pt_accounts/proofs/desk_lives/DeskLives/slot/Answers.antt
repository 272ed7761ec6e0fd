-- `DeskLives::slot`: its clause `counted`.
use Rattle.std.proofs.Common.{subst}
use Rattle.pt_accounts.specs.DeskLives.{DeskTable}
use Rattle.pt_accounts.specs.SlotState.{IsCountedUpTo}
use Rattle.pt_accounts.proofs.desk_lives.DeskLives.slot.Goals as goal

pub returns-then-pid-self-clause-counted : goal.returns-then-pid-self-clause-counted
returns-then-pid-self-clause-counted c = (c.self.inside.ever, subst (λ (t : DeskTable). IsCountedUpTo c.self.inside.ever t.slots) c.self.view_is c.self.invariant.counted)

pub returns-then-slot-len-clause-counted : goal.returns-then-slot-len-clause-counted
returns-then-slot-len-clause-counted c = (c.self.inside.ever, subst (λ (t : DeskTable). IsCountedUpTo c.self.inside.ever t.slots) c.self.view_is c.self.invariant.counted)

pub returns-else-slot-len-clause-counted : goal.returns-else-slot-len-clause-counted
returns-else-slot-len-clause-counted c = (c.self.inside.ever, subst (λ (t : DeskTable). IsCountedUpTo c.self.inside.ever t.slots) c.self.view_is c.self.invariant.counted)
