-- `start_child`: its contract.
use Rattle.std.proofs.Common.{◌≡◌, Some, ap, sym, ◌∙◌, rules}
use Rattle.pt_scheduler.specs.Asking.{BossStarts}
use Rattle.pt_scheduler.specs.declared.scheduler.Scheduler.{Scheduler}
use Rattle.pt_c_values.specs.Crossing.{pid_crossed}
use Rattle.pt_c_tools.specs.CrossingChildren.{told_after}
use Rattle.pt_c_crews.specs.Children.{CrewStartsChild}
use Rattle.pt_c_tools.specs.CrossingChildren.{child_in}
use Rattle.pt_c_crews.proofs.Asking.{asked}
use Rattle.pt_c_crews.proofs.InCrew.{codes_fit}
use Rattle.pt_c_crews.proofs.Through.{calls_through}
use Rattle.pt_c_crews.proofs.children.start_child.Goals.{in-Some-crew+in-Some-child_in, in-Some-crew+in-None-child_in, in-None}
use Rattle.pt_c_crews.proofs.children.start_child.Goals as goal

pub returns : goal.returns
returns c =
    elim c.match-deref_mut.branch [
      | in-Some-crew+in-Some-child_in w ↦
          let r = w.start_child.ensures in
          let p = pid_crossed c.args.p in
          let known = w.in-Some-child_in.known in
          calls_through c.args.c.now.state c.hold.result.state w.in-Some-crew.crew _ _ w.start_child.new.self
          (λ (old new : Scheduler). CrewStartsChild p c.args.child c.match-deref_mut.code c.args.out.now c.match-deref_mut.out old new)
          (cc (c.in-Some.ensures.value, c.deref_mut.ensures.value, c.crew.view_is, w.in-Some-crew.is))
          (c.hold.ensures ∙ ap (λ b. Some b.value) w.held-is)
          (codes_fit (child_in c.args.child) known c.match-deref_mut.code _ _ (sym w.child_in.ensures ∙ w.in-Some-child_in.is)
          (asked p w.pid_in.result (λ r was is. BossStarts known was r is) (λ r. c.match-deref_mut.out ≡ told_after r c.args.out.now) c.match-deref_mut.code w.in-Some-crew.crew w.start_child.new.self w.start_child.result
          w.pid_in.ensures (w.code-is ∙ w.value_code.ensures.code) (w.out-is ∙ w.value_code.ensures.wrote) r.asks r.attends r.upholds r.desk))
      | in-Some-crew+in-None-child_in w ↦ search rules
      | in-None w ↦ search rules
    ]
