-- `child_to_start`: its contract.
use Rattle.std.proofs.Common.{◌≡◌, Some, ap, ◌∙◌, rules}
use Rattle.pt_scheduler.specs.Asking.{BossAsksProgram}
use Rattle.pt_scheduler.specs.declared.scheduler.Scheduler.{Scheduler}
use Rattle.pt_c_values.specs.Crossing.{pid_crossed}
use Rattle.pt_c_tools.specs.CrossingChildren.{told_after}
use Rattle.pt_c_crews.specs.Children.{CrewAsksProgram}
use Rattle.pt_c_crews.proofs.Asking.{asked}
use Rattle.pt_c_crews.proofs.Through.{calls_through}
use Rattle.pt_c_crews.proofs.children.child_to_start.Goals.{in-Some-crew, in-None}
use Rattle.pt_c_crews.proofs.children.child_to_start.Goals as goal

pub returns : goal.returns
returns c =
    elim c.match-deref_mut.branch [
      | in-Some-crew w ↦
          let r = w.child_to_start.ensures in
          let p = pid_crossed c.args.p in
          calls_through c.args.c.now.state c.hold.result.state w.in-Some-crew.crew c.match-deref_mut.code _ w.child_to_start.new.self
          (λ (old new : Scheduler). CrewAsksProgram p c.match-deref_mut.code c.args.out.now c.match-deref_mut.out old new)
          (cc (c.in-Some.ensures.value, c.deref_mut.ensures.value, c.behind-held.view_is, w.in-Some-crew.is))
          (c.hold.ensures ∙ ap (λ b. Some b.value) w.held-is)
          (asked p w.pid_in.result (λ r was is. BossAsksProgram was r is) (λ r. c.match-deref_mut.out ≡ told_after r c.args.out.now) c.match-deref_mut.code w.in-Some-crew.crew w.child_to_start.new.self w.child_to_start.result
          w.pid_in.ensures (w.code-is ∙ w.value_code-code.ensures.code) (w.out-is ∙ w.value_code-code.ensures.wrote) r.asks r.attends r.upholds r.desk)
      | in-None w ↦ search rules
    ]
