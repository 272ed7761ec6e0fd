-- `Follower::see`: its clauses `state`, `sent` and `ending`.
use Rattle.std.proofs.Common.{rules}
use Rattle.pt_chart.proofs.follower.Follower.see.Goals as goal

pub returns-in-Left-clause-state : goal.returns-in-Left-clause-state
returns-in-Left-clause-state c = search rules

pub returns-in-Left-clause-sent : goal.returns-in-Left-clause-sent
returns-in-Left-clause-sent c = search rules

pub returns-in-Left-clause-ending : goal.returns-in-Left-clause-ending
returns-in-Left-clause-ending c = search rules
