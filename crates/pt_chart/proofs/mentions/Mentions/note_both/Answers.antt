-- `Mentions::note_both`: its contract.
use Rattle.std.proofs.Common.{sym}
use Rattle.std.proofs.lemmas.Result.{on_ok_weaker}
use Rattle.pt_chart.proofs.Mentioning.{noted_both}
use Rattle.pt_chart.proofs.mentions.Mentions.note_both.Goals as goal

pub returns : goal.returns
returns c =
    on_ok_weaker c.note_one-2.result
    (noted_both c.args.first c.args.second c.args.at c.args.self.now c.note_one.new.self c.note_one-2.new.self (sym c.if-eq.ensures) c.in_ok-note_one.ensures)
    c.note_one-2.ensures
