-- `reasons_may_be_forgotten`: its clauses `each`, `left` and `stay`.
use Rattle.pt_events.proofs.Forgetting.{forgets_each}
use Rattle.pt_laws.proofs.living.Resumed.{reasons_stay}
use Rattle.pt_laws.proofs.living.StartAfter.{forgetting_left, forgetting_start, forgetting_entries, forgetting_keeps}
use Rattle.pt_laws.proofs.laws.reasons_may_be_forgotten.Goals as goal

pub returns-clause-each : goal.returns-clause-each
returns-clause-each c = forgets_each

pub returns-clause-left : goal.returns-clause-left
returns-clause-left c start old left = (forgetting_left start old left, forgetting_start start, forgetting_entries start, forgetting_keeps start)

pub returns-clause-stay : goal.returns-clause-stay
returns-clause-stay c = reasons_stay
