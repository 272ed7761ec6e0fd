-- `Queues::pop`: its contract.
use Rattle.std.proofs.Common.{drop, sym, ◌∙◌}
use Rattle.pt_judge.specs.Filing.{queue_of}
use Rattle.pt_judge.proofs.Queued.{closed}
use Rattle.pt_judge.proofs.judging.queues.Queues.pop.Goals as goal

pub returns-then-pop_first : goal.returns-then-pop_first
returns-then-pop_first c =
    let a = c.args.from in
    let b = c.args.to in
    closed a b (drop 1 (queue_of c.args.self.now a b)) c.args.self.now c.pop_first.new.self c.close.new.self c.pop_first.ensures.queued
    (sym c.pop_first.ensures.none ∙ c.if-pop_first.true)
    c.close.ensures
