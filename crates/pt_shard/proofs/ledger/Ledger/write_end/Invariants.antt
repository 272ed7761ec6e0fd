-- `Ledger::write_end`: what holds in its loop over `i`.
use Rattle.std.proofs.Common.{◌≡◌, map, take, drop}
use Rattle.pt_events.specs.Journal.{letter}
use Rattle.pt_shard.specs.LedgerState.{wrote, HasRoomToAll}
use Rattle.pt_shard.proofs.ledger.Ledger.write_end.Given as goal

abbrev pub invariant-loop-i : goal.invariant-loop-i
invariant-loop-i l =
    (l.self.book ≡ wrote l.stamp l.fn.event (map (letter l.stamp) (take l.i l.estate.owed)) l.fn.self.book)
    × HasRoomToAll (drop l.i (map (λ x. x.to) l.estate.owed)) l.self × (l.self.lost_room ≡ l.fn.self.lost_room)
