-- `Estate::owed`: its contract.
use Rattle.std.proofs.Common.{arith}
use Rattle.pt_process.proofs.EstateLemmas.{owed_down, owed_demonitor}
use Rattle.pt_process.proofs.estate.Estate.owed.Goals as goal

pub returns-then-i-links-2 : goal.returns-then-i-links-2
returns-then-i-links-2 c =
    let e = c.self.inside in
    let at = rw c.len-links.ensures.len at c.at-then-i-links-2.ensures in
    rw (← c.self.view_is) (owed_down e.me e.reason e.links e.kept e.watching c.args.i _ (omega arith) (omega arith) at)

pub returns : goal.returns
returns c =
    let e = c.self.inside in
    let at = rw (c.len-links.ensures.len, c.len-kept.ensures.len) at c.at-2.ensures in
    rw (← c.self.view_is) (owed_demonitor e.me e.reason e.links e.kept e.watching c.args.i _ (omega arith) at)
