-- `Desk::post`: its clause `posts`, and its loop over `to`.
use Rattle.std.proofs.Common.{arith, rules}
use Rattle.pt_desk.proofs.Posted.{below_next}
use Rattle.pt_desk.proofs.desk.Desk.post.Goals as goal

pub loop-to-preserved : goal.loop-to-preserved
loop-to-preserved c =
    let inv = c.loop-to.invariant in
    let some = c.post_to.ensures.some in
    record {
      below = below_next c.args.self.now c.loop-to.self c.post_to.new.self c.loop-to.to c.post_to.result inv.below c.post_to.ensures.to some;
      count = omega (arith, inv.count, inv.below.grows, some.counted, c.saturating_add-posted.ensures);
    }

pub returns-clause-posts : goal.returns-clause-posts
returns-clause-posts c = search rules
