-- `resumed_is_legal`: its clauses `legal`, `same`, `start`, `twice`, `empty` and `again`.
use Rattle.std.proofs.Common.{inl, refl}
use Rattle.pt_laws.proofs.living.Resumed.{resumed, same_life, same_end, same_flying, all_new, left_again}
use Rattle.pt_laws.proofs.living.StartAfter.{is_start, one_entry_each, keeps_once}
use Rattle.pt_laws.proofs.living.Twice.{twice}
use Rattle.pt_laws.proofs.laws.resumed_is_legal.Goals as goal

pub returns-clause-legal : goal.returns-clause-legal
returns-clause-legal c start old new ok legal quiet n h = resumed start ok old legal quiet new n h

pub returns-clause-same : goal.returns-clause-same
returns-clause-same c start old new ok legal quiet =
    (λ p h. same_life start ok old p h new, λ p r s h. same_end start ok old p r s h new, same_flying start ok old legal quiet new)

pub returns-clause-start : goal.returns-clause-start
returns-clause-start c start old ok legal quiet = (is_start start ok old legal quiet, one_entry_each start ok old legal quiet, keeps_once start ok old legal quiet)

pub returns-clause-twice : goal.returns-clause-twice
returns-clause-twice c start one two ok = twice start ok one two

pub returns-clause-empty : goal.returns-clause-empty
returns-clause-empty c = (record { legal = tt; quiet = refl; alike = λ p. inl refl }, all_new)

pub returns-clause-again : goal.returns-clause-again
returns-clause-again c = left_again
