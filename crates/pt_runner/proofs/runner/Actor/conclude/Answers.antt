-- `Actor::conclude`: its clause `behind`.
use Rattle.std.proofs.Common.{sym, subst, refl}
use Rattle.pt_runner.specs.declared.calls.Progress.{Progress}
use Rattle.pt_runner.specs.Acting.{GoesBehind, acting}
use Rattle.pt_runner.proofs.runner.Actor.conclude.Goals as goal

pub returns-in-Done-clause-behind : goal.returns-in-Done-clause-behind
returns-in-Done-clause-behind c = subst (λ (x : Progress). GoesBehind c.args.script.now.processes c.args.pids.now x (acting c.args.self.now) c.args.desk.now.shard (acting c.advance.new.self) c.args.desk.now.shard) (sym c.in-Done.is) (c.advance.ensures.acting, refl)

pub returns-in-Took-clause-behind : goal.returns-in-Took-clause-behind
returns-in-Took-clause-behind c = subst (λ (x : Progress). GoesBehind c.args.script.now.processes c.args.pids.now x (acting c.args.self.now) c.args.desk.now.shard (acting c.advance-in-Took.new.self) c.args.desk.now.shard) (sym c.in-Took.is) (c.advance-in-Took.ensures.acting, refl)

pub returns-in-Waits-clause-behind : goal.returns-in-Waits-clause-behind
returns-in-Waits-clause-behind c = subst (λ (x : Progress). GoesBehind c.args.script.now.processes c.args.pids.now x (acting c.args.self.now) c.args.desk.now.shard (acting c.args.self.now) c.args.desk.now.shard) (sym c.in-Waits.is) (refl, refl)

pub returns-in-Stays-clause-behind : goal.returns-in-Stays-clause-behind
returns-in-Stays-clause-behind c = subst (λ (x : Progress). GoesBehind c.args.script.now.processes c.args.pids.now x (acting c.args.self.now) c.args.desk.now.shard (acting c.put_off.new.self) c.args.desk.now.shard) (sym c.in-Stays.is) (c.put_off.ensures.acting, refl)

pub returns-in-Ends-clause-behind : goal.returns-in-Ends-clause-behind
returns-in-Ends-clause-behind c = subst (λ (x : Progress). GoesBehind c.args.script.now.processes c.args.pids.now x (acting c.args.self.now) c.args.desk.now.shard (acting c.end.new.self) c.end.new.desk.shard) (sym c.in-Ends.is) (c.end.ensures.behind c.args.script.now.processes c.args.pids.now)
