-- `write_steps`: its contract.
use Rattle.std.proofs.Common.{map}
use Rattle.pt_render.specs.Pages.{left_json_lines, step_lines, step_told}
use Rattle.pt_render.proofs.Appending.{appends_last}
use Rattle.pt_render.proofs.writing.write_steps.Goals as goal

pub returns : goal.returns
returns g c =
    appends_last c.write_letters.result (g.W.Write.contents c.args.out.now) (g.W.Write.contents c.write_events.new.out) (g.W.Write.contents c.write_letters.new.out) (step_lines (map step_told c.args.steps.now)) (left_json_lines c.args.letters.now)
    c.in_ok-write_events.ensures c.write_letters.ensures
