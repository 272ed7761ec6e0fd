-- `exit_signal`: its clause `does`.
use Rattle.std.proofs.Common.{Some, refl, sym, ◌∙◌}
use Rattle.pt_signal.specs.declared.pid.Pid.{Pid}
use Rattle.pt_signal.specs.declared.signal.Signal.TheVariants.{Exit}
use Rattle.pt_events.specs.declared.event.Event.TheVariants.{Said}
use Rattle.pt_runner.proofs.Acting.{passed_at, call_at}
use Rattle.pt_runner.proofs.calls.exit_signal.Goals as goal

pub returns-in-None-clause-does : goal.returns-in-None-clause-does
returns-in-None-clause-does c = passed_at _ c.args.p _ c.args.desk.now.shard (sym c.target.ensures.target ∙ c.in-None.is)

pub returns-in-Some-clause-does : goal.returns-in-Some-clause-does
returns-in-Some-clause-does c =
    call_at _ c.in-Some.to c.args.p (λ (q : Pid). Some (Said c.args.p q (Exit c.args.reason))) _ c.args.desk.now.shard c.exit_signal.new.self.shard c.exit_signal.result c.progress_of.result
    (sym c.target.ensures.target ∙ c.in-Some.is) refl c.exit_signal.ensures.does c.progress_of.ensures
