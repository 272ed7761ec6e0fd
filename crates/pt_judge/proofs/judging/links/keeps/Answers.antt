-- `keeps`: its contract.
use Rattle.std.proofs.Common.{◌∙◌, ap, is_some}
use Rattle.pt_judge.proofs.FirstPlaces.{any_found}
use Rattle.pt_judge.proofs.judging.links.keeps.Goals as goal
use Rattle.pt_signal.specs.Process.{same_watch}

pub returns : goal.returns
returns c = c.is_some.ensures ∙ ap is_some c.find.ensures ∙ any_found (same_watch c.args.monitor c.args.watcher) c.args.kept.now
