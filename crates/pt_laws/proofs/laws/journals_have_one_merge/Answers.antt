-- `journals_have_one_merge`: its clauses `there` and `one`.
use Rattle.std.proofs.Common.{◌∙◌, sym}
use Rattle.pt_laws.proofs.lanes.Gathering.{merge_is_there}
use Rattle.pt_laws.proofs.lanes.OneMerge.{one_merge}
use Rattle.pt_laws.proofs.laws.journals_have_one_merge.Goals as goal

pub returns-clause-there : goal.returns-clause-there
returns-clause-there c start low top n journal local none = merge_is_there start low top journal local n none

pub returns-clause-one : goal.returns-clause-one
returns-clause-one c journal one two m n = one_merge one two m.0 n.0 (λ d. m.1 d ∙ sym (n.1 d))
