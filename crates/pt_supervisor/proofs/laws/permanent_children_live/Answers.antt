-- `permanent_children_live`: its clauses `stays`, `live` and `here`.
use Rattle.std.proofs.lemmas.Option.{slice_get_within}
use Rattle.pt_supervisor.proofs.Joining.{waits_settled}
use Rattle.pt_supervisor.proofs.Staying.{here_awaits_nobody}
use Rattle.pt_children.proofs.Wanting.{heard_keeps, lives_when_wanted}
use Rattle.pt_supervisor.proofs.laws.permanent_children_live.Goals as goal

pub returns-clause-stays : goal.returns-clause-stays
returns-clause-stays c = heard_keeps

pub returns-clause-live : goal.returns-clause-live
returns-clause-live c s waits none k place child at is =
    lives_when_wanted child (k place child at is).0 ((waits_settled s waits none).0 place child (slice_get_within s.children place child at) at)

pub returns-clause-here : goal.returns-clause-here
returns-clause-here c = here_awaits_nobody
