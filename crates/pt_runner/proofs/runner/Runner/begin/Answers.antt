-- `Runner::begin`: its clause `knows`.
use Rattle.std.proofs.Common.{length, reverse, ap, ◌∙◌, arith}
use Rattle.std.proofs.lemmas.List.{length-reverse}
use Rattle.pt_runner.proofs.Waiting.{attends_knows}
use Rattle.pt_runner.proofs.runner.Runner.begin.Goals as goal

pub returns-then-events-self-clause-knows : goal.returns-then-events-self-clause-knows
returns-then-events-self-clause-knows c = λ attends. c.begin_again.ensures.knows c.args.desk.now.shard

pub returns-else-events-self-clause-knows : goal.returns-else-events-self-clause-knows
returns-else-events-self-clause-knows c = λ attends.
    let d = c.args.desk.now.shard in
    let l = ap length (c.events.ensures.events ∙ ap reverse c.journal.ensures.past) in
    let r = length-reverse d.journal in
    attends_knows c.args.self.now d (omega (arith, c.if-events-self.false, l, r)) attends
