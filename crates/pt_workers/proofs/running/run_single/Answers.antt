-- `run_single`: its clauses `desks`, `rounds` and `turns`, and what its call of `all_rounds` asks.
use Rattle.std.proofs.Common.{arith, rules}
use Rattle.pt_workers.proofs.GoingOn.{still_desks}
use Rattle.pt_workers.proofs.running.run_single.Goals as goal

pub returns-then-len-gt64-clause-desks : goal.returns-then-len-gt64-clause-desks
returns-then-len-gt64-clause-desks g c = still_desks _ _ c.one_by_one.ensures.each

pub returns-clause-desks : goal.returns-clause-desks
returns-clause-desks g c = still_desks _ _ c.all_rounds.ensures.each

pub returns-then-len-gt64-clause-rounds : goal.returns-then-len-gt64-clause-rounds
returns-then-len-gt64-clause-rounds g c few = absurd (omega (arith, few, c.if-len-gt64.true, c.len.ensures, c.args.desks.ok.0))

pub all_rounds-requires : goal.all_rounds-requires
all_rounds-requires g c = omega (arith, c.if-len-gt64.false, c.len.ensures, c.args.desks.ok.0)

pub returns-clause-turns : goal.returns-clause-turns
returns-clause-turns g c = search rules

pub returns-clause-rounds : goal.returns-clause-rounds
returns-clause-rounds g c = search rules
