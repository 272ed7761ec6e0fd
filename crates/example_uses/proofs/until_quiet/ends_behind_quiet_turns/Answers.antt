-- `ends_behind_quiet_turns`: its contract.
use Rattle.example_uses.proofs.Quieted.{ends_quietly}
use Rattle.example_uses.proofs.until_quiet.ends_behind_quiet_turns.Goals as goal

pub returns : goal.returns
returns g c = ends_quietly (g.W.Work.does, g.W.Work.hears)
