-- `meet`: its clause `state`.
use Rattle.std.proofs.Common.{rules}
use Rattle.pt_accounts.proofs.life.meet.Goals as goal

pub returns-in-Ends-clause-state : goal.returns-in-Ends-clause-state
returns-in-Ends-clause-state c = search rules
