-- `Ledger::next_out`: its clause `rest`.
use Rattle.std.proofs.Common.{ap}
use Rattle.pt_shard.proofs.Ledgers.{passed_letters}
use Rattle.pt_shard.proofs.ledger.Ledger.next_out.Goals as goal

pub returns-clause-rest : goal.returns-clause-rest
returns-clause-rest c =
    let within = rw (← c.self.view_is) at c.requires in
    rw (← c.self.view_is)
    (ap (λ o. record { start = c.self.inside.origin.start; desk = c.self.inside.journal.desk; clock = c.self.inside.clock; journal = c.self.inside.journal.past; outbox = o; hold = c.self.inside.hold; keeps = c.self.inside.losses.keeps; lost = c.self.inside.losses.kept })
    (passed_letters c.self.inside.outbox.items c.from.result c.args.to c.from.ensures within c.index_mut.result.now c.pop.new.self c.index_mut.ensures.value 1 c.pop.ensures.rest))
