-- `stamps_make_new_ids`: its clauses `numbers`, `both`, `new` and `open`.
use Rattle.pt_laws.proofs.living.NewIds.{stamps_number, both_number, stamps_are_new, old_refs}
use Rattle.pt_laws.proofs.laws.stamps_make_new_ids.Goals as goal

pub returns-clause-numbers : goal.returns-clause-numbers
returns-clause-numbers c start low top n journal merged local m up = stamps_number start low top n journal merged local m up

pub returns-clause-both : goal.returns-clause-both
returns-clause-both c = both_number

pub returns-clause-new : goal.returns-clause-new
returns-clause-new c start low top journal merged old h local m = stamps_are_new start low top journal merged old h local m

pub returns-clause-open : goal.returns-clause-open
returns-clause-open c start low top n journal merged ok old local m up = old_refs start low top n journal merged ok old local m up
