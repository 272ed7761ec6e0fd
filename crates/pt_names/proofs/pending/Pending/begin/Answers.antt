-- `Pending::begin`: its clauses `does` and `goes_on`, and what its call of `number_of` asks.
use Rattle.std.proofs.Common.{Some, true, inr, sym, ap, subst, ◌∙◌, ℤ, false}
use Rattle.pt_desk.proofs.Turning.{goes_on_then}
use Rattle.pt_names.specs.declared.pending.Pending.{Pending}
use Rattle.pt_behaviour.specs.Telling.{SendsTo}
use Rattle.pt_names.proofs.Fitting.{monitor_fits, carried}
use Rattle.pt_names.proofs.pending.Pending.begin.Goals as goal

pub number_of-number-requires : goal.number_of-number-requires
number_of-number-requires c = monitor_fits c.args.me c.args.server c.args.desk.now c.in_ok-reference.reference c.monitor.new.desk c.in_ok-reference.ensures.does

pub returns-in-Some-clause-does : goal.returns-in-Some-clause-does
returns-in-Some-clause-does c = inr (record {
  monitor = c.in_ok-reference.reference;
  watching = c.monitor.new.desk;
  watches = c.in_ok-reference.ensures.does;
  untold = c.send.new.desk;
  told = c.send.result;
  tells = subst (λ (n : ℤ). SendsTo c.args.me c.args.server (record { kind = c.args.asks; num = n; who = Some c.args.me }) c.monitor.new.desk c.send.result c.send.new.desk)
      (carried c.number_of-number.result c.in_ok-reference.reference.number c.number_of-number.ensures (monitor_fits c.args.me c.args.server c.args.desk.now c.in_ok-reference.reference c.monitor.new.desk c.in_ok-reference.ensures.does)) c.send.ensures.does;
  fault = c.in-Some.fault;
  refused = sym c.refusal.ensures ∙ c.in-Some.is;
  given_up = c.demonitor.result;
  gives_up = c.demonitor.ensures.does;
  tells_client = c.unsent.ensures;
})

pub returns-in-Some-clause-goes_on : goal.returns-in-Some-clause-goes_on
returns-in-Some-clause-goes_on c =
    goes_on_then c.args.desk.now c.send.new.desk c.demonitor.new.desk (goes_on_then c.args.desk.now c.monitor.new.desk c.send.new.desk c.in_ok-reference.ensures.goes_on c.send.ensures.goes_on) c.demonitor.ensures.goes_on

pub returns-clause-goes_on : goal.returns-clause-goes_on
returns-clause-goes_on c =
    goes_on_then c.args.desk.now c.monitor.new.desk c.send.new.desk c.in_ok-reference.ensures.goes_on c.send.ensures.goes_on

pub returns-clause-does : goal.returns-clause-does
returns-clause-does c =
    let m = c.in_ok-reference.reference in
    let number = carried c.number_of-number.result m.number c.number_of-number.ensures (monitor_fits c.args.me c.args.server c.args.desk.now m c.monitor.new.desk c.in_ok-reference.ensures.does) in
    let call : ℤ → Pending = λ n. record { client = c.args.me; server = c.args.server; monitor = m; number = n; deadline = c.args.deadline; waits = true; left_open = false } in
    record {
      watching = c.monitor.new.desk;
      watches = c.in_ok-reference.ensures.does;
      told = c.send.result;
      tells = subst (λ (n : ℤ). SendsTo c.args.me c.args.server (record { kind = c.args.asks; num = n; who = Some c.args.me }) c.monitor.new.desk c.send.result c.send.new.desk) number c.send.ensures.does;
      asked = sym c.refusal.ensures ∙ c.in_default.is;
      pending = ap call number;
    }
