-- `Ledger::write_came`: its contract.
use Rattle.std.proofs.Common.{rules}
use Rattle.pt_shard.proofs.ledger.Ledger.write_came.Goals as goal

pub returns-in-Some : goal.returns-in-Some
returns-in-Some c = search rules
