-- `Ledger::pending`: what holds in its loop over `e`.
use Rattle.std.proofs.Common.{◌≡◌, ◌+◌, ◌^◌, ◌-◌, min, take, length}
use Rattle.std.specs.Prelude.{sum_by}
use Rattle.pt_shard.specs.Outbox.{count_held}
use Rattle.pt_shard.proofs.ledger.Ledger.pending.Given as goal

abbrev pub invariant-loop-e : goal.invariant-loop-e
invariant-loop-e l = l.count ≡ min (sum_by length (take l.e l.fn.self.book.outbox) + count_held l.fn.self.book.hold) (2 ^ 64 - 1)
