-- `numbered`: its contract, and its loop over `at`.
use Rattle.std.proofs.Common.{arith}
use Rattle.pt_chart.proofs.Rowing.{numbers_next, numbered}
use Rattle.pt_chart.proofs.standing.numbered.Goals as goal

pub loop-at-preserved : goal.loop-at-preserved
loop-at-preserved c =
    numbers_next c.args.births c.args.follows.now c.loop-at.at c.loop-at.row c.row_behind-row.result c.loop-at.rows.items c.push.new.self.items c.loop-at.invariant
    (record {
      first = c.row_behind-row.ensures.first;
      front = c.row_behind-row.ensures.front;
      shared = c.row_behind-row.ensures.shared;
      own = c.row_behind-row.ensures.own;
      most = c.row_behind-row.ensures.most;
    })
    c.in_ok-push.ensures.items

pub returns : goal.returns
returns c = numbered c.args.births c.args.follows.now c.loop-at.at c.loop-at.row c.loop-at.rows.items (omega arith) c.loop-at.invariant
