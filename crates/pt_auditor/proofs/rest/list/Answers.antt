-- `list`: its contract.
use Rattle.std.proofs.Common.{[], ◌∷◌, ◌++◌, refl, ap, sym, subst, ◌∙◌}
use Rattle.std.proofs.lemmas.Grind.{flat_map-append}
use Rattle.pt_signal.specs.Process.{fresh}
use Rattle.pt_events.specs.History.{living, ended}
use Rattle.pt_events.specs.Leaving.{outcome}
use Rattle.pt_judge.specs.Judging.{now_is}
use Rattle.pt_auditor.specs.declared.rest.Resident.TheVariants.{Lives}
use Rattle.pt_auditor.specs.Rests.{IsListed, holds_so, resident_lives}
use Rattle.pt_auditor.proofs.Resting.{listed, not_listed, reason_outcome}
use Rattle.pt_auditor.proofs.rest.list.Goals as goal

pub returns-in-Some : goal.returns-in-Some
returns-in-Some c =
    let p = c.args.pid in
    let s = c.args.state in
    let r = c.in-Some.reason in
    listed p (ended r fresh) s s c.args.residents.now.items _ c.in-Ok.ensures (reason_outcome (now_is s p) r c.in-Some.ensures) refl (λ q a. refl) c.requires

pub returns-then-not-alive : goal.returns-then-not-alive
returns-then-not-alive c =
    not_listed c.args.pid c.args.state c.args.residents.now.items (sym c.alive.ensures ∙ c.if-not-alive.true) c.in_default.ensures c.requires

pub returns : goal.returns
returns c =
    let p = c.args.pid in
    let s = c.args.state in
    let rs = c.args.residents.now.items in
    let new = c.in_ok-state.state in
    let h = c.in_ok-state.holding in
    let out = c.in_ok-state.ensures in
    subst (IsListed p s rs new) (sym c.in-Ok-put.ensures)
    (listed p (living (holds_so h)) s new rs (rs ++ Lives p h ∷ []) (flat_map-append resident_lives rs (Lives p h ∷ [])) (ap outcome out.held) refl out.others out.still)
