-- `Mentions::note_one`: its contract.
use Rattle.std.proofs.lemmas.Result.{on_ok_weaker}
use Rattle.pt_chart.proofs.Mentioning.{noted_one}
use Rattle.pt_chart.proofs.mentions.Mentions.note_one.Goals as goal

pub returns : goal.returns
returns c = on_ok_weaker c.push.result (noted_one c.args.pid c.args.at c.args.self.now c.push.new.self) c.push.ensures
