-- `State::cause`: its clause `judged`.
use Rattle.pt_judge.proofs.Trial.{judged_by}
use Rattle.pt_judge.proofs.judging.state.State.cause.Goals as goal

pub returns-in-Said-clause-judged : goal.returns-in-Said-clause-judged
returns-in-Said-clause-judged c start past k = judged_by start past c.args.self.now c.args.event _ c.saying_cause.result k c.in-Said.is c.saying_cause.ensures

pub returns-in-Came-clause-judged : goal.returns-in-Came-clause-judged
returns-in-Came-clause-judged c start past k = judged_by start past c.args.self.now c.args.event _ c.coming_cause.result k c.in-Came.is c.coming_cause.ensures

pub returns-in-Took-clause-judged : goal.returns-in-Took-clause-judged
returns-in-Took-clause-judged c start past k = judged_by start past c.args.self.now c.args.event _ c.taking_cause.result k c.in-Took.is c.taking_cause.ensures
