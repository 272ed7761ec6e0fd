-- `restart_child`: its contract.
use Rattle.std.proofs.Common.{Some, ap, ◌∙◌, rules}
use Rattle.std.specs.Prelude.{⊤}
use Rattle.pt_scheduler.specs.Asking.{BossRestarts}
use Rattle.pt_scheduler.specs.declared.scheduler.Scheduler.{Scheduler}
use Rattle.pt_c_values.specs.Crossing.{pid_crossed}
use Rattle.pt_c_crews.specs.Children.{CrewRestartsChild}
use Rattle.pt_c_crews.proofs.Asking.{asked}
use Rattle.pt_c_crews.proofs.Through.{calls_through}
use Rattle.pt_c_crews.proofs.children.restart_child.Goals.{in-Some-crew, in-None}
use Rattle.pt_c_crews.proofs.children.restart_child.Goals as goal

pub returns : goal.returns
returns c =
    elim c.match-deref_mut.branch [
      | in-Some-crew w ↦
          let r = w.restart_child.ensures in
          let p = pid_crossed c.args.p in
          calls_through c.args.c.now.state c.hold.result.state w.in-Some-crew.crew c.match-deref_mut.code _ w.restart_child.new.self (λ (old new : Scheduler). CrewRestartsChild p c.args.tag c.match-deref_mut.code old new)
          (cc (c.in-Some.ensures.value, c.deref_mut.ensures.value, c.behind-held.view_is, w.in-Some-crew.is))
          (c.hold.ensures ∙ ap (λ b. Some b.value) w.held-is)
          (asked p w.pid_in.result (λ r was is. BossRestarts c.args.tag was r is) (λ r. ⊤) c.match-deref_mut.code w.in-Some-crew.crew w.restart_child.new.self w.restart_child.result
          w.pid_in.ensures (w.code-is ∙ w.child_code-code.ensures) tt r.asks r.attends r.upholds r.desk)
      | in-None w ↦ search rules
    ]
