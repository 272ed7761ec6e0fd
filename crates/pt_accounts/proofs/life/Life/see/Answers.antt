-- `Life::see`: its contract.
use Rattle.std.proofs.Common.{rules}
use Rattle.pt_accounts.proofs.life.Life.see.Goals as goal

pub returns-in-Took : goal.returns-in-Took
returns-in-Took c = search rules
