-- `Ledger::pending`: its loop over `e`.
use Rattle.std.proofs.Common.{ap, arith}
use Rattle.pt_shard.specs.Outbox.{count_held}
use Rattle.pt_shard.proofs.Ledgers.{counted_more}
use Rattle.pt_shard.proofs.ledger.Ledger.pending.Goals as goal

pub loop-e-preserved : goal.loop-e-preserved
loop-e-preserved c =
    counted_more c.self.inside.outbox.items c.args.self.now.book.outbox (ap (λ l. l.book.outbox) c.self.view_is) c.loop-e.e (omega (arith, c.loop-e-test.true, c.len-e-end.ensures))
    c.index.result.now c.index.ensures (count_held c.args.self.now.book.hold) c.loop-e.count c.len.result c.saturating_add-count.result c.loop-e.invariant c.len.ensures c.saturating_add-count.ensures
