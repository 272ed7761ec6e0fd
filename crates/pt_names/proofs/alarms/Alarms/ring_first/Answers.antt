-- `Alarms::ring_first`: its clause `does`.
use Rattle.std.proofs.Common.{◌≡◌, rules, Err, refl, sym, subst}
use Rattle.pt_names.specs.Alarming.{RingsFirst}
use Rattle.pt_names.proofs.Ringing.{was_cancelled}
use Rattle.pt_names.proofs.alarms.Alarms.ring_first.Goals as goal

pub returns-in_err-tell-clause-does : goal.returns-in_err-tell-clause-does
returns-in_err-tell-clause-does c =
    let refused : c.from_residual.result ≡ Err c.in_err-tell.field-0.0 = search rules in
    subst (λ r. RingsFirst c.args.me c.args.now c.args.self.now.timers c.args.desk.now r c.args.self.now.timers c.tell.new.desk) (sym refused)
    (record { rung = record { timer = c.in-Some.timer; alarm = c.in-Some.alarm }; first = c.in-Some.ensures; tells = c.in_err-tell.ensures.does; same = refl })

pub returns-clause-does : goal.returns-clause-does
returns-clause-does c = (
  record { timer = c.in-Some.timer; alarm = c.in-Some.alarm },
  record {
    first = c.in-Some.ensures;
    tells = c.in_ok-tell.ensures.does;
    cancels = was_cancelled c.in-Some.timer c.in-Some.alarm c.args.self.now.timers c.cancel.new.self c.cancel.result c.in-Some.ensures.pending c.cancel.ensures.cancels;
  },
)
