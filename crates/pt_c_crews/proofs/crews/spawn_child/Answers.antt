-- `spawn_child`: its contract, once what is passed in and the desk fit.
use Rattle.std.proofs.Common.{Some, ap, sym, ◌∙◌, rules}
use Rattle.pt_c_values.specs.Crossing.{pid_crossed}
use Rattle.pt_c_tools.specs.Nexts.{next_in}
use Rattle.pt_c_crews.specs.Owning.{is_own}
use Rattle.pt_c_crews.proofs.InCrew.{child_as, codes_fit, desk_fits}
use Rattle.pt_c_crews.proofs.Through.{calls_both}
use Rattle.pt_c_crews.proofs.crews.spawn_child.Goals.{in-Some-Some+in-Some-next_in, in-Some-Some+in-Some-2, in-Some-Some+in-None, in-Some+in-None-1, in-None-1}
use Rattle.pt_c_crews.proofs.crews.spawn_child.Goals as goal

pub returns : goal.returns
returns c =
    elim c.match-deref_mut.branch [
      | in-Some-Some+in-Some-next_in w ↦ search rules
      | in-Some-Some+in-Some-2 w ↦
          let r = w.spawn_child-child.ensures in
          let t = w.in-Some-Some.crew in
          let d = w.in-Some-Some.desk in
          let u = w.spawn_child-child.new.self in
          let e = w.spawn_child-child.new.desk in
          let next = w.in-Some-2.next in
          calls_both c.args.h.now.state c.hold-3.result.state c.args.c.now.state c.hold-2.result.state d e t u _ _ _ _ _
          (cc (c.in-Some.ensures.value, c.deref_mut-2.ensures.value, c.desk.view_is, w.in-Some-Some.is-1))
          (c.hold-3.ensures ∙ ap (λ b. Some b.value) w.place-is)
          (cc (c.in-Some-claim.ensures.value, c.deref_mut.ensures.value, c.crew.view_is, w.in-Some-Some.is-0))
          (c.hold-2.ensures ∙ ap (λ b. Some b.value) w.held-is)
          (codes_fit (next_in c.args.first) next c.match-deref_mut.code _ _ (sym w.next_in.ensures ∙ w.in-Some-2.is)
          (desk_fits (is_own t d) c.match-deref_mut.code _ _ (sym w.is_own.ensures ∙ w.if-not-is_own.false)
          (child_as (pid_crossed c.args.parent) w.pid_in.result c.args.linked c.args.tag c.match-deref_mut.code c.args.out.now c.match-deref_mut.out t d u e next _ w.pid_in.ensures
          ((w.spawn_child-child.result, w.code-is ∙ w.spawn_code.ensures.code, w.out-is ∙ w.spawn_code.ensures.wrote, (r.does, r.desk)), (r.attends, r.goes_on), r.upholds) w.in-Some-2.next-is)))
      | in-Some-Some+in-None w ↦ search rules
      | in-Some+in-None-1 w ↦ search rules
      | in-None-1 w ↦ search rules
    ]
