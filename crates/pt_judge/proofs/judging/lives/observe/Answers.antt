-- `observe`: its contract.
use Rattle.std.proofs.Common.{◌≡◌, ◌∙◌, ◌++◌, ◌∷◌, [], sym, ap, subst, subst₂}
use Rattle.pt_events.specs.History.{newborn, unborn}
use Rattle.pt_judge.specs.Judging.{IsObserved, MayBeBorn}
use Rattle.pt_judge.proofs.Lives.{observed_birth}
use Rattle.pt_judge.proofs.judging.lives.observe.Goals as goal

pub returns-in_ok-with-in-Born : goal.returns-in_ok-with-in-Born
returns-in_ok-with-in-Born c =
    let old = c.args.lives in
    let mid = c.in_ok-lives-in-Born.lives in
    let q = c.in-Born.pid in
    let parent = c.in-Born.parent in
    let absent = subst (MayBeBorn old) c.in-Born.is c.requires in
    let all : c.in_ok-with-in-Born.field-0 ≡ mid ++ (q, newborn parent c.in-Born.link unborn) ∷ [] =
    c.in_ok-with-in-Born.ensures ∙ ap (λ l. mid ++ l ∷ []) c.in_ok-born-in-Born.ensures
    in
    subst₂ (λ new event. IsObserved old new event) (sym all) (sym c.in-Born.is) (observed_birth old mid q parent c.in-Born.link absent c.in_ok-lives-in-Born.ensures)
