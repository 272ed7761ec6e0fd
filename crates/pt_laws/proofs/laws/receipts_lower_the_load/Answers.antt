-- `receipts_lower_the_load`: its clauses `falls`, `bounded`, `quiet`, `empty` and `oldest`.
use Rattle.pt_laws.proofs.lanes.Load.{load_falls}
use Rattle.pt_laws.proofs.lanes.Settled.{settled_bound, quiet_flights, flights_quiet}
use Rattle.pt_laws.proofs.lanes.Emptied.{empty_is_quiet, oldest_may_come}
use Rattle.pt_laws.proofs.laws.receipts_lower_the_load.Goals as goal

pub returns-clause-falls : goal.returns-clause-falls
returns-clause-falls c start past a b x ok h = load_falls start ok past a b x h

pub returns-clause-bounded : goal.returns-clause-bounded
returns-clause-bounded c start old new ok a h = settled_bound start ok old new a h

pub returns-clause-quiet : goal.returns-clause-quiet
returns-clause-quiet c start past = (quiet_flights start past, flights_quiet start past)

pub returns-clause-empty : goal.returns-clause-empty
returns-clause-empty c = empty_is_quiet

pub returns-clause-oldest : goal.returns-clause-oldest
returns-clause-oldest c = oldest_may_come
