-- `load_by_desk_falls`: its clauses `one`, `lowers` and `merge`.
use Rattle.pt_laws.proofs.lanes.Load.{one_receipt}
use Rattle.pt_laws.proofs.DeskLoads.{merge_load, receipt_lowers}
use Rattle.pt_laws.proofs.laws.load_by_desk_falls.Goals as goal

pub returns-clause-one : goal.returns-clause-one
returns-clause-one c start past a b x ok = one_receipt start ok past a b x

pub returns-clause-lowers : goal.returns-clause-lowers
returns-clause-lowers c start n d e l s journal after over left ok d_in e_in r = receipt_lowers start ok n d e l s journal after over left r d_in e_in

pub returns-clause-merge : goal.returns-clause-merge
returns-clause-merge c = merge_load
