-- `Hearing::rest`: its contract.
use Rattle.std.proofs.Common.{ℕ, Bool, List, None, refl, ap, subst, ◌∙◌}
use Rattle.pt_judge.specs.Judging.{JudgeState}
use Rattle.pt_auditor.specs.declared.desks.Desks.{Desks}
use Rattle.pt_auditor.specs.Seen.{SeenSlots}
use Rattle.pt_auditor.specs.Rests.{AreResidents, IsRestless}
use Rattle.pt_auditor.proofs.Resting.{is_rest}
use Rattle.pt_auditor.proofs.hearing.Hearing.rest.Goals as goal

pub returns-in-Ok : goal.returns-in-Ok
returns-in-Ok c heard k =
    let h = c.args.self in
    let parts = c.into_parts-state.ensures in
    let kept = c.at_rest-clocks.ensures in
    let still : IsRestless heard None = subst (IsRestless heard) c.in_default.is (c.hindrance.ensures.why heard k) in (
      still.0.none_told,
      is_rest heard h k _ still.0 (c.hindrance.ensures.of_node c.in_default.is) refl refl refl
          (ap (λ (z : List (ℕ × ℕ) × SeenSlots × Bool). z.2) kept ∙ ap (λ (z : JudgeState × Desks). z.1.begun) parts)
          (ap (λ (z : List (ℕ × ℕ) × SeenSlots × Bool). z.0) kept ∙ ap (λ (z : JudgeState × Desks). z.1.clocks) parts)
          (ap (λ (z : List (ℕ × ℕ) × SeenSlots × Bool). z.1) kept ∙ ap (λ (z : JudgeState × Desks). z.1.seen) parts)
          (subst (λ (z : JudgeState × Desks). AreResidents z.0 c.in-Ok.residents.items) parts c.in-Ok.ensures),
    )
