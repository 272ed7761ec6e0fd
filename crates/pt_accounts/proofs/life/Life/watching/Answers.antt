-- `Life::watching`: its contract.
use Rattle.std.proofs.Common.{rules}
use Rattle.pt_accounts.proofs.life.Life.watching.Goals as goal

pub returns-in-Some : goal.returns-in-Some
returns-in-Some c = search rules
