-- `Slots::value_mut`: its contract, and what its calls of `index_mut` and `value_mut` ask, and its checked operations.
use Rattle.std.proofs.Common.{refl, ◌∙◌}
use Rattle.pt_slots.proofs.Steps.{found, holds, same_value}
use Rattle.pt_slots.proofs.Slots.value_mut.Goals as goal

pub index_mut-requires : goal.index_mut-requires
index_mut-requires g c =
    let live = found _ (rw (← c.self.view_is) at c.requires) in
    rw (holds _ c.args.key live.0 live.1).entry refl

pub value_mut-requires : goal.value_mut-requires
value_mut-requires g c =
    let live = found _ (rw (← c.self.view_is) at c.requires) in
    rw (same_value _ _ _ c.index_mut.ensures.value (holds _ c.args.key live.0 live.1).entry) refl

pub returns : goal.returns
returns g c =
    let live = found _ (rw (← c.self.view_is) at c.requires) in
    let entry = same_value _ _ _ (holds _ c.args.key live.0 live.1).entry c.index_mut.ensures.value in (
      (refl, λ w. rw (← c.self.view_is) refl),
      record {
        writes_back = tt;
        value = rw (← c.self.view_is) (live.1 ∙ entry ∙ c.value_mut.ensures.value);
      },
    )
