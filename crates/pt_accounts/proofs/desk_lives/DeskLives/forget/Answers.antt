-- `DeskLives::forget`: its clause `anew`, and the invariant of `self`.
use Rattle.std.proofs.Common.{List, sym, subst}
use Rattle.pt_accounts.specs.LifeState.{LifeState}
use Rattle.pt_accounts.specs.DeskLives.{DeskTable, BeginsAnew}
use Rattle.pt_accounts.specs.SlotState.{SlotsAreCounted}
use Rattle.pt_accounts.specs.Changed.{OthersAreForgotten}
use Rattle.pt_accounts.proofs.Forgetting.{begins_anew, counted_forgotten}
use Rattle.pt_accounts.proofs.ToForget.{forgotten_others}
use Rattle.pt_accounts.proofs.desk_lives.DeskLives.forget.Goals as goal

pub invariant_of-self : goal.invariant_of-self
invariant_of-self c =
    let slots = c.self.inside.slots.items in
    record {
      counted = record {
        few = c.self.invariant.counted.few;
        counted = subst (SlotsAreCounted c.self.inside.ever) (sym c.forget_changed.ensures.forgets) (counted_forgotten c.self.inside.ever slots c.self.invariant.counted.counted);
      };
      others = subst (OthersAreForgotten c.forget_changed.new.changed) (sym c.forget_changed.ensures.forgets) (forgotten_others c.forget_changed.new.changed slots);
    }

pub returns-clause-anew : goal.returns-clause-anew
returns-clause-anew c =
    subst (λ (t : DeskTable). BeginsAnew t (record { desk = c.self.inside.desk; slots = c.forget_changed.new.slots.items; read = 0 })) c.self.view_is
    (subst (λ (s : List (List LifeState)). BeginsAnew (record { desk = c.self.inside.desk; slots = c.self.inside.slots.items; read = c.self.inside.read }) (record { desk = c.self.inside.desk; slots = s; read = 0 })) (sym c.forget_changed.ensures.forgets)
    (begins_anew (record { desk = c.self.inside.desk; slots = c.self.inside.slots.items; read = c.self.inside.read })))
