-- `judge`: its contract, and what its call of `after` asks.
use Rattle.std.proofs.Common.{sym, ◌∙◌}
use Rattle.pt_judge.proofs.Trial.{judged_some, judged_none}
use Rattle.pt_judge.proofs.judging.trial.judge.Goals as goal

pub returns-in-Some : goal.returns-in-Some
returns-in-Some c start past k = judged_some start past c.args.state c.args.event c.cause.result c.in-Some.cause k c.cause.ensures.is c.in-Some.is

pub after-requires : goal.after-requires
after-requires c = sym c.cause.ensures.is ∙ c.in_default.is

pub returns-in-Ok : goal.returns-in-Ok
returns-in-Ok c start past k = (
  judged_none start past c.args.state c.args.event c.cause.result k c.cause.ensures.is c.in_default.is,
  c.in-Ok.ensures.goes_on start past k,
)

pub returns-in-Err : goal.returns-in-Err
returns-in-Err c start past k = judged_none start past c.args.state c.args.event c.cause.result k c.cause.ensures.is c.in_default.is
