-- `Hearing::end`: its contract.
use Rattle.std.proofs.Common.{refl, sym}
use Rattle.pt_auditor.proofs.Heard.{all_told, verdict_is}
use Rattle.pt_auditor.proofs.hearing.Hearing.end.Goals as goal

pub returns-in-None : goal.returns-in-None
returns-in-None c heard k = (all_told heard c.args.self.now k (sym c.in-None.ensures), verdict_is heard c.args.self.now k _ refl refl refl refl)
