-- `one_down`: its clauses `down`, `made`, `local`, `empty` and `over`.
use Rattle.std.proofs.Common.{[], refl, arith}
use Rattle.pt_laws.proofs.lanes.Heading.{one_down}
use Rattle.pt_laws.proofs.monitoring.MadeOnce.{made_once_local}
use Rattle.pt_laws.proofs.monitoring.Monitors.{said_once}
use Rattle.pt_laws.proofs.living.StartAfter.{made_once}
use Rattle.pt_laws.proofs.laws.one_down.Goals as goal

pub returns-clause-down : goal.returns-clause-down
returns-clause-down c = one_down

pub returns-clause-made : goal.returns-clause-made
returns-clause-made c past w m legal = let once = said_once m w [] past legal in omega arith

pub returns-clause-local : goal.returns-clause-local
returns-clause-local c = made_once_local

pub returns-clause-empty : goal.returns-clause-empty
returns-clause-empty c low w m = (omega arith, λ l. refl)

pub returns-clause-over : goal.returns-clause-over
returns-clause-over c = made_once
