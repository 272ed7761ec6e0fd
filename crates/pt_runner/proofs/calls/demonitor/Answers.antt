-- `demonitor`: its clause `does`.
use Rattle.std.proofs.Common.{sym, ◌∙◌}
use Rattle.pt_runner.proofs.Acting.{demonitor_passed, demonitor_at}
use Rattle.pt_runner.proofs.calls.demonitor.Goals as goal

pub returns-in-None-clause-does : goal.returns-in-None-clause-does
returns-in-None-clause-does c = demonitor_passed _ c.args.p c.args.flush c.args.desk.now.shard (sym c.reference_of.ensures ∙ c.in-None.is)

pub returns-in-Some-clause-does : goal.returns-in-Some-clause-does
returns-in-Some-clause-does c =
    demonitor_at _ c.in-Some.reference c.args.p c.args.flush c.args.desk.now.shard c.demonitor.new.self.shard c.demonitor.result c.progress_of.result
    (sym c.reference_of.ensures ∙ c.in-Some.is) c.demonitor.ensures.does c.progress_of.ensures
