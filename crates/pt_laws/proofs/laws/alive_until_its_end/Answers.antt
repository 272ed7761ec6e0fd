-- `alive_until_its_end`: its contract.
use Rattle.std.proofs.Common.{sym}
use Rattle.pt_laws.proofs.living.BirthsAndEnds.{alive_until_end, end_reason_is}
use Rattle.pt_laws.proofs.laws.alive_until_its_end.Goals as goal

pub returns : goal.returns
returns c start past p h = (alive_until_end start past p h, sym (end_reason_is start past p h))
