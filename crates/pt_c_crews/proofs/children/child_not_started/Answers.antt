-- `child_not_started`: its contract.
use Rattle.std.proofs.Common.{Some, ap, ◌∙◌, rules}
use Rattle.std.specs.Prelude.{⊤}
use Rattle.pt_shard.specs.declared.fault.Fault.TheVariants.{NoProc}
use Rattle.pt_scheduler.specs.Asking.{BossAnswersNotStarted}
use Rattle.pt_scheduler.specs.declared.scheduler.Scheduler.{Scheduler}
use Rattle.pt_c_values.specs.Crossing.{pid_crossed}
use Rattle.pt_c_crews.specs.Children.{CrewIsToldNotStarted}
use Rattle.pt_c_crews.proofs.Asking.{asked}
use Rattle.pt_c_crews.proofs.Through.{calls_through}
use Rattle.pt_c_crews.proofs.children.child_not_started.Goals.{in-Some-crew, in-None}
use Rattle.pt_c_crews.proofs.children.child_not_started.Goals as goal

pub returns : goal.returns
returns c =
    elim c.match-deref_mut.branch [
      | in-Some-crew w ↦
          let r = w.child_not_started.ensures in
          let p = pid_crossed c.args.p in
          calls_through c.args.c.now.state c.hold.result.state w.in-Some-crew.crew c.match-deref_mut.code _ w.child_not_started.new.self (λ (old new : Scheduler). CrewIsToldNotStarted p c.args.tag c.match-deref_mut.code old new)
          (cc (c.in-Some.ensures.value, c.deref_mut.ensures.value, c.behind-held.view_is, w.in-Some-crew.is))
          (c.hold.ensures ∙ ap (λ b. Some b.value) w.held-is)
          (asked p w.pid_in.result (λ r was is. BossAnswersNotStarted c.args.tag NoProc was r is) (λ r. ⊤) c.match-deref_mut.code w.in-Some-crew.crew w.child_not_started.new.self w.child_not_started.result
          w.pid_in.ensures (w.code-is ∙ w.child_code-code.ensures) tt r.asks r.attends r.upholds r.desk)
      | in-None w ↦ search rules
    ]
