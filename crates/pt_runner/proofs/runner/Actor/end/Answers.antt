-- `Actor::end`: its clause `behind`.
use Rattle.std.proofs.Common.{Ok, Err, refl}
use Rattle.pt_runner.proofs.runner.Actor.end.Goals as goal

pub returns-in-Ok-clause-behind : goal.returns-in-Ok-clause-behind
returns-in-Ok-clause-behind c = λ plans pids. (Ok tt, refl, c.in-Ok.ensures.does)

pub returns-in-Err-clause-behind : goal.returns-in-Err-clause-behind
returns-in-Err-clause-behind c = λ plans pids. (Err c.in-Err._refused, c.put_off.ensures.acting, c.in-Err.ensures.does)
