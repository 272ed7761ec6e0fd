-- `taken_or_waiting`: its contract.
use Rattle.pt_laws.proofs.order.Positions.{placed}
use Rattle.pt_laws.proofs.laws.taken_or_waiting.Goals as goal

pub returns : goal.returns
returns c start past p h = let r = placed start p past h in (r.took_there, r.arrivals, r.distinct, r.waits)
