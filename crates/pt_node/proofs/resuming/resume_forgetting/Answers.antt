-- `resume_forgetting`: its clause `resumes`, and what its call of `forget_reasons` asks.
use Rattle.std.proofs.Common.{◌≡◌, ◌<◌, List, [], length, get_or, map, refl, ap, ◌∙◌, sym, subst, arith}
use Rattle.std.proofs.lemmas.List.{length-map}
use Rattle.pt_desk.specs.DeskState.{DeskState}
use Rattle.pt_desk.specs.Forgetting.{forgetful_desk}
use Rattle.pt_node.specs.Resuming.{ResumesForgetful}
use Rattle.pt_workers.proofs.GoingOn.{written}
use Rattle.pt_node.proofs.Forgetful.{resumes_forgetful, journals_empty}
use Rattle.pt_node.proofs.resuming.resume_forgetting.Goals as goal

pub forget_reasons-requires : goal.forget_reasons-requires
forget_reasons-requires c d x lt =
    let desks = c.in_ok-desks.desks.items in
    let is : c.as_mut_slice.result.now ≡ desks = c.as_mut_slice.ensures.value in
    subst (λ ds. (get_or ds d x).shard.journal ≡ []) (sym is)
    (journals_empty c.args.settled.gathered desks c.in_ok-desks.ensures.resumes d x (subst (λ (ds : List DeskState). d < length ds) is lt))

pub returns-clause-resumes : goal.returns-clause-resumes
returns-clause-resumes c =
    let g = c.args.settled.gathered in
    let old = c.in_ok-desks.desks.items in
    let new = c.forget_reasons.new.desks in
    let forgot : new ≡ map forgetful_desk old = c.forget_reasons.ensures ∙ ap (map forgetful_desk) c.as_mut_slice.ensures.value in
    let long : length new ≡ length old = ap length forgot ∙ length-map old forgetful_desk in
    let whole = written old new c.in_ok-desks.desks.len long (omega (arith, c.in_ok-desks.desks.ok.0)) ∙ forgot in
    subst (ResumesForgetful g) (sym whole) (resumes_forgetful g old (map forgetful_desk old) c.in_ok-desks.ensures.resumes refl)
