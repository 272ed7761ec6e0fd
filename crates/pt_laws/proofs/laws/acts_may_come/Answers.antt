-- `acts_may_come`: its clauses `local` and `legal`.
use Rattle.pt_laws.proofs.living.Acts.{local_acts, legal_acts}
use Rattle.pt_laws.proofs.laws.acts_may_come.Goals as goal

pub returns-clause-local : goal.returns-clause-local
returns-clause-local c = local_acts

pub returns-clause-legal : goal.returns-clause-legal
returns-clause-legal c = legal_acts
