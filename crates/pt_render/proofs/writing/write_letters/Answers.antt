-- `write_letters`: its loop over `letter`.
use Rattle.pt_render.specs.Pages.{left_json_line}
use Rattle.pt_render.proofs.Appending.{lines_more}
use Rattle.pt_render.proofs.writing.write_letters.Goals as goal

pub loop-letter-preserved : goal.loop-letter-preserved
loop-letter-preserved g c =
    lines_more left_json_line c.args.letters.now c.loop-letter.letter-index _ (g.W.Write.contents c.args.out.now) (g.W.Write.contents c.loop-letter.out) (g.W.Write.contents c.write_letter.new.out) c.loop-letter-test.true c.loop-letter.invariant
    c.in_ok-write_letter.ensures
