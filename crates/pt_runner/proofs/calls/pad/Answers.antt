-- `pad`: its loop.
use Rattle.std.proofs.Common.{◌<◌, length, ap, ◌∙◌, arith}
use Rattle.pt_runner.specs.Acting.{padded_to}
use Rattle.pt_runner.proofs.Acting.{padded_more}
use Rattle.pt_runner.proofs.calls.pad.Goals as goal

pub loop-references-preserved : goal.loop-references-preserved
loop-references-preserved c =
    let inv = c.loop-references.invariant in
    let before = c.loop-references.references in
    let lt : length before.items < c.args.tag = omega (arith, c.loop-references-test.true, c.len.ensures, before.ok.0) in
    record {
      padded = ap (padded_to c.args.tag) c.push_reserved.ensures.items ∙ padded_more c.args.tag before.items lt ∙ inv.padded;
      room = let l = c.len.ensures in omega (arith, inv.room, c.push_reserved.ensures.len, c.push_reserved.ensures.capacity, c.loop-references-test.true, l);
    }
