-- `take`: its clause `does`.
use Rattle.std.proofs.Common.{sym, ◌∙◌}
use Rattle.pt_runner.proofs.Acting.{take_passed, take_at}
use Rattle.pt_runner.proofs.calls.take.Goals as goal

pub returns-in_default-clause-does : goal.returns-in_default-clause-does
returns-in_default-clause-does c = take_passed _ c.args.p c.args.without c.args.desk.now.shard (sym c.pick_of.ensures ∙ c.in_default.is)

pub returns-clause-does : goal.returns-clause-does
returns-clause-does c = take_at _ c.in-Some.pick c.args.p c.args.without c.args.desk.now.shard c.receive.new.self.shard c.receive.result c.taken_of.result (sym c.pick_of.ensures ∙ c.in-Some.is) c.receive.ensures.does c.taken_of.ensures
