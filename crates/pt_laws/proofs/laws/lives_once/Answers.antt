-- `lives_once`: its clauses `once`, `after` and `closed`.
use Rattle.pt_laws.proofs.living.AfterEnd.{nothing_after_end}
use Rattle.pt_laws.proofs.living.BirthsAndEnds.{born_once, ended_once, stays_ended}
use Rattle.pt_laws.proofs.laws.lives_once.Goals as goal

pub returns-clause-once : goal.returns-clause-once
returns-clause-once c start past p h = (born_once start past p h, ended_once start past p h)

pub returns-clause-after : goal.returns-clause-after
returns-clause-after c = stays_ended

pub returns-clause-closed : goal.returns-clause-closed
returns-clause-closed c = nothing_after_end
