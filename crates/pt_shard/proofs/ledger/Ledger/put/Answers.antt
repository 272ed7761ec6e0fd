-- `Ledger::put`: its clauses `book` and `rooms`.
use Rattle.std.proofs.Common.{ap}
use Rattle.pt_shard.proofs.Ledgers.{put_letters, put_rooms}
use Rattle.pt_shard.proofs.ledger.Ledger.put.Goals as goal

pub returns-clause-book : goal.returns-clause-book
returns-clause-book c =
    let within = rw (← c.self.view_is) at c.requires.to in
    rw (← c.self.view_is)
    (ap (λ o. record { start = c.self.inside.origin.start; desk = c.self.inside.journal.desk; clock = c.self.inside.clock; journal = c.self.inside.journal.past; outbox = o; hold = c.self.inside.hold; keeps = c.self.inside.losses.keeps; lost = c.self.inside.losses.kept })
    (put_letters c.self.inside.outbox.items c.from.result c.args.letter.to.shard c.from.ensures within c.index_mut.result.now c.push.new.self c.index_mut.ensures.value c.args.letter c.push.ensures.letters))

pub returns-clause-rooms : goal.returns-clause-rooms
returns-clause-rooms c =
    let within = rw (← c.self.view_is) at c.requires.to in
    rw (← c.self.view_is) (put_rooms c.self.inside.outbox.items c.from.result c.args.letter.to.shard c.from.ensures within c.index_mut.result.now c.push.new.self c.index_mut.ensures.value c.push.ensures.room)
