-- `spawn_supervisor`: its contract, also where there was no memory for the children.
use Rattle.std.proofs.Common.{Some, Err, inr, refl, ap, sym, ◌∙◌, rules}
use Rattle.pt_shard.specs.declared.fault.Fault.TheVariants.{Memory}
use Rattle.pt_workers.proofs.GoingOn.{stays}
use Rattle.pt_c_tools.specs.CrossingChildren.{children_in, spec_in}
use Rattle.pt_c_crews.specs.Owning.{is_own}
use Rattle.pt_c_crews.proofs.InCrew.{children_known, codes_fit, desk_fits, is_itself}
use Rattle.pt_c_crews.proofs.Through.{calls_both}
use Rattle.pt_c_crews.proofs.crews.spawn_supervisor.Goals.{in-Some-Some+in-Some-spec_in, in-Some-Some+in-Some-2, in-Some-Some+in-Some-3+in-Ok, in-Some-Some+in-Some-3+in-Err, in-Some-Some+in-None, in-Some+in-None-1, in-None-1}
use Rattle.pt_c_crews.proofs.crews.spawn_supervisor.Goals as goal

pub returns : goal.returns
returns c =
    elim c.match-deref_mut.branch [
      | in-Some-Some+in-Some-spec_in w ↦ search rules
      | in-Some-Some+in-Some-2 w ↦ search rules
      | in-Some-Some+in-Some-3+in-Ok w ↦ search rules
      | in-Some-Some+in-Some-3+in-Err w ↦
          let kids = c.args.children.now in
          let t = w.in-Some-Some.crew in
          let d = w.in-Some-Some.desk in
          calls_both c.args.h.now.state c.hold-3.result.state c.args.c.now.state c.hold-2.result.state d d t t _ _ _ _ _
          (cc (c.in-Some.ensures.value, c.deref_mut-2.ensures.value, c.desk.view_is, w.in-Some-Some.is-1))
          (c.hold-3.ensures ∙ ap (λ b. Some b.value) w.place-is)
          (cc (c.in-Some-claim.ensures.value, c.deref_mut.ensures.value, c.crew.view_is, w.in-Some-Some.is-0))
          (c.hold-2.ensures ∙ ap (λ b. Some b.value) w.held-is)
          (codes_fit (spec_in c.args.spec) w.in-Some-3.known c.match-deref_mut.code _ _ (sym w.spec_in.ensures ∙ w.in-Some-3.is)
          (codes_fit (children_in kids) _ c.match-deref_mut.code _ _ (children_known kids (sym w.are_children.ensures ∙ w.if-not-are_children.false))
          (desk_fits (is_own t d) c.match-deref_mut.code _ _ (sym w.is_own.ensures ∙ w.if-not-is_own.false)
          ((Err Memory, w.code-is, w.out-is, ((inr (refl, refl), is_itself t), refl)), ((λ a. a), stays d), λ past u. u))))
      | in-Some-Some+in-None w ↦ search rules
      | in-Some+in-None-1 w ↦ search rules
      | in-None-1 w ↦ search rules
    ]
