-- `Processes::end`: its clause `ends`.
use Rattle.pt_shard.proofs.Removals.{taken_out}
use Rattle.pt_shard.proofs.processes.Processes.end.Goals as goal

pub returns-clause-ends : goal.returns-clause-ends
returns-clause-ends c =
    rw (← c.self.view_is)
    (taken_out c.key_of.result c.args.p c.args.reason c.in-Some.process c.estate.result c.self.inside.table c.remove.new.self
    c.key_of.ensures.slot c.key_of.ensures.version c.estate.ensures c.in-Some.ensures)
