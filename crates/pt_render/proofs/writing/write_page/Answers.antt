-- `write_page`: its contract.
use Rattle.std.proofs.Common.{◌++◌, codes, map}
use Rattle.pt_chart.specs.Drawing.{called_given}
use Rattle.pt_render.specs.Pages.{names_json, step_told, steps_text, verdict_line}
use Rattle.pt_render.specs.declared.page.TheConstants.{PAGE_END, PAGE_HEAD, PAGE_NAMES}
use Rattle.pt_render.proofs.Appending.{appends_last}
use Rattle.pt_render.proofs.writing.write_page.Goals as goal

pub returns : goal.returns
returns g c =
    let at = g.W.Write.contents in
    let r = c.write_line-3.result in
    let new = at c.write_line-3.new.out in
    let steps = map step_told c.args.steps.now in
    appends_last r (at c.args.out.now) (at c.write_line.new.out) new (PAGE_HEAD.now ++ codes "\n") _ c.in_ok-write_line.ensures
    (appends_last r (at c.write_line.new.out) (at c.write_steps.new.out) new (steps_text steps c.args.letters.now) _ c.in_ok-write_steps.ensures
    (appends_last r (at c.write_steps.new.out) (at c.write_verdict.new.out) new (verdict_line steps c.args.letters.now) _ c.in_ok-write_verdict.ensures
    (appends_last r (at c.write_verdict.new.out) (at c.write_line-2.new.out) new (PAGE_NAMES.now ++ codes "\n") _ c.in_ok-write_line-2.ensures
    (appends_last r (at c.write_line-2.new.out) (at c.write_names.new.out) new (names_json (map called_given c.args.called.now) ++ codes "\n") (PAGE_END.now ++ codes "\n") c.in_ok-write_names.ensures c.write_line-3.ensures))))
