-- `begin`: its clauses `does` and `goes_on`.
use Rattle.std.proofs.Common.{ℤ, Some, inr, refl, sym, ◌∙◌, subst}
use Rattle.pt_desk.proofs.Turning.{goes_on_then}
use Rattle.pt_behaviour.specs.Telling.{SendsTo}
use Rattle.pt_names.proofs.Fitting.{monitor_fits, carried}
use Rattle.pt_c_tools.proofs.asking.begin.Goals as goal

pub returns-in-Some-clause-does : goal.returns-in-Some-clause-does
returns-in-Some-clause-does c deadline =
    let m = c.in_ok-reference.reference in
    inr (record {
      monitor = m;
      watching = c.monitor.new.desk;
      watches = c.in_ok-reference.ensures.does;
      untold = c.send.new.desk;
      told = c.send.result;
      tells = subst (λ (n : ℤ). SendsTo c.args.me c.args.server (record { kind = c.args.asks; num = n; who = Some c.args.me }) c.monitor.new.desk c.send.result c.send.new.desk)
          (carried c.number_of.result m.number c.number_of.ensures (monitor_fits c.args.me c.args.server c.args.desk.now m c.monitor.new.desk c.in_ok-reference.ensures.does)) c.send.ensures.does;
      fault = c.in-Some.fault;
      refused = sym c.refusal.ensures ∙ c.in-Some.is;
      given_up = c.demonitor.result;
      gives_up = c.demonitor.ensures.does;
      tells_client = c.unsent.ensures;
    })

pub returns-in-Some-clause-goes_on : goal.returns-in-Some-clause-goes_on
returns-in-Some-clause-goes_on c =
    goes_on_then c.args.desk.now c.send.new.desk c.demonitor.new.desk (goes_on_then c.args.desk.now c.monitor.new.desk c.send.new.desk c.in_ok-reference.ensures.goes_on c.send.ensures.goes_on) c.demonitor.ensures.goes_on

pub returns-clause-goes_on : goal.returns-clause-goes_on
returns-clause-goes_on c =
    goes_on_then c.args.desk.now c.monitor.new.desk c.send.new.desk c.in_ok-reference.ensures.goes_on c.send.ensures.goes_on

pub returns-clause-does : goal.returns-clause-does
returns-clause-does c deadline =
    let m = c.in_ok-reference.reference in
    record {
      watching = c.monitor.new.desk;
      watches = c.in_ok-reference.ensures.does;
      told = c.send.result;
      tells = subst (λ (n : ℤ). SendsTo c.args.me c.args.server (record { kind = c.args.asks; num = n; who = Some c.args.me }) c.monitor.new.desk c.send.result c.send.new.desk)
          (carried c.number_of.result m.number c.number_of.ensures (monitor_fits c.args.me c.args.server c.args.desk.now m c.monitor.new.desk c.in_ok-reference.ensures.does)) c.send.ensures.does;
      asked = sym c.refusal.ensures ∙ c.in_default.is;
      pending = refl;
    }
