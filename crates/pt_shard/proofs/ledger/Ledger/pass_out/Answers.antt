-- `Ledger::pass_out`: its contract.
use Rattle.std.proofs.Common.{ap}
use Rattle.pt_shard.proofs.Ledgers.{passed_letters}
use Rattle.pt_shard.proofs.ledger.Ledger.pass_out.Goals as goal

pub returns : goal.returns
returns c =
    let within = rw (← c.self.view_is) at c.requires.desk in
    rw (← c.self.view_is)
    (ap (λ o. record { start = c.self.inside.origin.start; desk = c.self.inside.journal.desk; clock = c.self.inside.clock; journal = c.self.inside.journal.past; outbox = o; hold = c.self.inside.hold; keeps = c.self.inside.losses.keeps; lost = c.self.inside.losses.kept })
    (passed_letters c.self.inside.outbox.items c.from.result c.args.to c.from.ensures within c.index_mut.result.now c.pass.new.self c.index_mut.ensures.value c.args.count c.pass.ensures))
