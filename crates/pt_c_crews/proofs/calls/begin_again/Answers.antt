-- `begin_again`: its contract.
use Rattle.std.proofs.Common.{Some, inr, ap, ◌∙◌, rules, arith}
use Rattle.pt_scheduler.specs.declared.scheduler.Scheduler.{Scheduler}
use Rattle.pt_c_crews.specs.Crewing.{CrewBeginsAgain}
use Rattle.pt_c_crews.proofs.Through.{calls_through}
use Rattle.pt_c_crews.proofs.calls.begin_again.Goals.{in-Some-crew+in-Ok, in-Some-crew+in-Err, in-None}
use Rattle.pt_c_crews.proofs.calls.begin_again.Goals as goal

pub returns : goal.returns
returns c =
    elim c.match-deref_mut.branch [
      | in-Some-crew+in-Ok w ↦ search rules
      | in-Some-crew+in-Err w ↦
          let e = w.in-Err.ensures in
          calls_through c.args.c.now.state c.hold.result.state w.in-Some-crew.crew c.match-deref_mut.code _ w.begin_again.new.self (λ (old new : Scheduler). CrewBeginsAgain c.match-deref_mut.code old new)
          (cc (c.in-Some.ensures.value, c.deref_mut.ensures.value, c.behind-held.view_is, w.in-Some-crew.is))
          (c.hold.ensures ∙ ap (λ b. Some b.value) w.held-is)
          (record {
            either = inr w.code-is;
            all = λ is. absurd (omega (arith, is, w.code-is));
            attends = λ is. absurd (omega (arith, is, w.code-is));
            done = λ d a. absurd (cc (e.ok d a));
            roles = e.roles;
            longer = e.longer;
            rest = e.rest;
            desk = e.desk;
          })
      | in-None w ↦ search rules
    ]
