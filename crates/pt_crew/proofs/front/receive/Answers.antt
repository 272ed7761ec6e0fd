-- `receive`: its clause `gets`.
use Rattle.std.proofs.Common.{Ok}
use Rattle.pt_crew.proofs.Getting.{got_ok}
use Rattle.pt_crew.proofs.front.receive.Goals as goal

pub returns-clause-gets : goal.returns-clause-gets
returns-clause-gets c = (
  Ok c.in-Ok.got,
  c.in-Ok.ensures.does,
  got_ok c.args.is_over c.is_none.result c.in-Ok.got c.is_none.ensures c.else-is_none.either,
)
