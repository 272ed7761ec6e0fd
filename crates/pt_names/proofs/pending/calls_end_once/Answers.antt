-- `calls_end_once`: its contract.
use Rattle.pt_names.proofs.Ends.{ends_once, ends_first}
use Rattle.pt_names.proofs.pending.calls_end_once.Goals as goal

pub returns-clause-items : goal.returns-clause-items
returns-clause-items c = ends_once

pub returns-clause-events : goal.returns-clause-events
returns-clause-events c = ends_first
