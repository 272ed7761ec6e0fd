-- `Ins::collect`: its clauses `some` and `first`.
use Rattle.pt_carrier.proofs.Collecting.{collects, is_first}
use Rattle.pt_carrier.proofs.ends.Ins.collect.Goals as goal

pub returns-clause-some : goal.returns-clause-some
returns-clause-some c =
    let same = c.in-Some.ensures.same in
    collects c.args.self.now c.next_from.new.self c.take-letter.new.self c.in-Some.d c.take-letter.result same.0 same.2 c.in-Some.ensures.some.0 c.take-letter.ensures.collects c.take-letter.ensures.others

pub returns-clause-first : goal.returns-clause-first
returns-clause-first c =
    let same = c.in-Some.ensures.same in
    is_first c.args.self.now c.next_from.new.self c.take-letter.new.self c.in-Some.d c.take-letter.result same.0 same.2 c.in-Some.ensures.some.0 c.take-letter.ensures.collects c.take-letter.ensures.others c.in-Some.ensures.some.1
