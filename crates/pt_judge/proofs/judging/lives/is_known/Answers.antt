-- `is_known`: its contract.
use Rattle.std.proofs.Common.{◌∙◌, ap, is_some}
use Rattle.pt_judge.proofs.Lives.{found_known}
use Rattle.pt_judge.proofs.judging.lives.is_known.Goals as goal

pub returns : goal.returns
returns c = c.is_some.ensures ∙ found_known c.found.result ∙ ap is_some c.found.ensures
