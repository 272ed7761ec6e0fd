-- `DeskLives::forget_reasons`: its clauses `bare` and `ends`, and the invariant of `self`.
use Rattle.std.proofs.Common.{◌∙◌, List, ap, sym, subst}
use Rattle.std.specs.Prelude.{filter_map}
use Rattle.pt_accounts.specs.LifeState.{LifeState}
use Rattle.pt_accounts.specs.DeskLives.{DeskTable, BeginsBare, latest_end, latest_ends}
use Rattle.pt_accounts.specs.SlotState.{SlotsAreCounted}
use Rattle.pt_accounts.specs.Changed.{OthersAreForgotten}
use Rattle.pt_accounts.proofs.Forgetting.{begins_bare, counted_bare, latest_bares}
use Rattle.pt_accounts.proofs.ToForget.{bare_others}
use Rattle.pt_accounts.proofs.desk_lives.DeskLives.forget_reasons.Goals as goal

pub invariant_of-self : goal.invariant_of-self
invariant_of-self c =
    let slots = c.self.inside.slots.items in
    record {
      counted = record {
        few = c.self.invariant.counted.few;
        counted = subst (SlotsAreCounted c.self.inside.ever) (sym c.forget_all_reasons.ensures) (counted_bare c.self.inside.ever slots c.self.invariant.counted.counted);
      };
      others = subst (OthersAreForgotten c.self.inside.changed) (sym c.forget_all_reasons.ensures) (bare_others c.self.inside.changed slots);
    }

pub returns-clause-bare : goal.returns-clause-bare
returns-clause-bare c =
    subst (λ (t : DeskTable). BeginsBare t (record { desk = c.self.inside.desk; slots = c.forget_all_reasons.new.slots.items; read = 0 })) c.self.view_is
    (subst (λ (s : List (List LifeState)). BeginsBare (record { desk = c.self.inside.desk; slots = c.self.inside.slots.items; read = c.self.inside.read }) (record { desk = c.self.inside.desk; slots = s; read = 0 })) (sym c.forget_all_reasons.ensures)
    (begins_bare (record { desk = c.self.inside.desk; slots = c.self.inside.slots.items; read = c.self.inside.read })))

pub returns-clause-ends : goal.returns-clause-ends
returns-clause-ends c =
    ap (filter_map latest_end) c.forget_all_reasons.ensures ∙ latest_bares c.self.inside.slots.items ∙ ap latest_ends c.self.view_is
