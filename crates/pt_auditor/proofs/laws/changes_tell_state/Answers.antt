-- `changes_tell_state`: its clauses.
use Rattle.std.proofs.Common.{refl}
use Rattle.pt_auditor.specs.Changes.{judge_of_nothing, reader_of_nothing}
use Rattle.pt_auditor.proofs.Changing.{keeps_state, steps_tell_state}
use Rattle.pt_auditor.proofs.laws.changes_tell_state.Goals as goal

pub returns-clause-one : goal.returns-clause-one
returns-clause-one c = keeps_state

pub returns-clause-goes_on : goal.returns-clause-goes_on
returns-clause-goes_on c = steps_tell_state

pub returns-clause-all : goal.returns-clause-all
returns-clause-all c s steps leads = steps_tell_state judge_of_nothing s steps reader_of_nothing leads (record { alike = λ p. refl; flies = refl })
