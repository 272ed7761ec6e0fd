-- `unlink`: its clause `does`.
use Rattle.std.proofs.Common.{refl, sym, ◌∙◌}
use Rattle.pt_shard.specs.Calls.{unlink_event}
use Rattle.pt_runner.proofs.Acting.{passed_at, call_at}
use Rattle.pt_runner.proofs.calls.unlink.Goals as goal

pub returns-in-None-clause-does : goal.returns-in-None-clause-does
returns-in-None-clause-does c = passed_at _ c.args.p _ c.args.desk.now.shard (sym c.target.ensures.target ∙ c.in-None.is)

pub returns-in-Some-clause-does : goal.returns-in-Some-clause-does
returns-in-Some-clause-does c =
    call_at _ c.in-Some.to c.args.p (unlink_event c.args.desk.now.shard c.args.p) _ c.args.desk.now.shard c.unlink.new.self.shard c.unlink.result c.progress_of.result
    (sym c.target.ensures.target ∙ c.in-Some.is) refl c.unlink.ensures.does c.progress_of.ensures
