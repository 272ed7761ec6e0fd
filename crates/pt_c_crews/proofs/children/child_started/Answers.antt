-- `child_started`: its contract.
use Rattle.std.proofs.Common.{Some, ap, subst, ◌∙◌, rules}
use Rattle.std.specs.Prelude.{⊤}
use Rattle.pt_signal.specs.declared.pid.Pid.{Pid}
use Rattle.pt_scheduler.specs.Asking.{AsksBoss, BossAnswersStarted}
use Rattle.pt_scheduler.specs.declared.scheduler.Scheduler.{Scheduler}
use Rattle.pt_c_values.specs.Crossing.{pid_crossed}
use Rattle.pt_c_crews.specs.Children.{CrewIsToldStarted}
use Rattle.pt_c_crews.proofs.Asking.{asked}
use Rattle.pt_c_crews.proofs.Through.{calls_through}
use Rattle.pt_c_crews.proofs.children.child_started.Goals.{in-Some-crew, in-None}
use Rattle.pt_c_crews.proofs.children.child_started.Goals as goal

pub returns : goal.returns
returns c =
    elim c.match-deref_mut.branch [
      | in-Some-crew w ↦
          let r = w.child_started.ensures in
          let p = pid_crossed c.args.p in
          calls_through c.args.c.now.state c.hold.result.state w.in-Some-crew.crew c.match-deref_mut.code _ w.child_started.new.self (λ (old new : Scheduler). CrewIsToldStarted p c.args.tag (pid_crossed c.args.child) c.match-deref_mut.code old new)
          (cc (c.in-Some.ensures.value, c.deref_mut.ensures.value, c.behind-held.view_is, w.in-Some-crew.is))
          (c.hold.ensures ∙ ap (λ b. Some b.value) w.held-is)
          (asked p w.pid_in.result (λ r was is. BossAnswersStarted c.args.tag (pid_crossed c.args.child) was r is) (λ r. ⊤) c.match-deref_mut.code w.in-Some-crew.crew w.child_started.new.self w.child_started.result
          w.pid_in.ensures (w.code-is ∙ w.child_code-code.ensures) tt
          (subst (λ (x : Pid). AsksBoss w.pid_in.result (λ r was is. BossAnswersStarted c.args.tag x was r is) w.child_started.result w.in-Some-crew.crew w.child_started.new.self) c.pid_in-started.ensures r.asks) r.attends r.upholds r.desk)
      | in-None w ↦ search rules
    ]
