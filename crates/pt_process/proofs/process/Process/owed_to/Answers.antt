-- `Process::owed_to`: its clause `to`.
use Rattle.std.proofs.Common.{arith}
use Rattle.pt_process.proofs.EstateLemmas.{peer_linked, peer_watcher, peer_watched}
use Rattle.pt_process.proofs.process.Process.owed_to.Goals as goal

pub returns-then-i-links-clause-to : goal.returns-then-i-links-clause-to
returns-then-i-links-clause-to c =
    let e = c.self.inside in
    rw (← c.self.view_is) (peer_linked e.links.entries e.kept.entries e.watching.entries c.args.i _ (omega (arith, c.if-i-links.true, c.len-links.ensures.len)) c.nth.ensures.entry)

pub returns-then-i-links-2-clause-to : goal.returns-then-i-links-2-clause-to
returns-then-i-links-2-clause-to c =
    let e = c.self.inside in
    let at = rw c.len-links.ensures.len at c.nth-then-i-links-2.ensures.entry in
    rw (← c.self.view_is) (peer_watcher e.links.entries e.kept.entries e.watching.entries c.args.i _ (omega arith) (omega arith) at)

pub returns-clause-to : goal.returns-clause-to
returns-clause-to c =
    let e = c.self.inside in
    let at = rw (c.len-links.ensures.len, c.len-kept.ensures.len) at c.nth-2.ensures.entry in
    rw (← c.self.view_is) (peer_watched e.links.entries e.kept.entries e.watching.entries c.args.i _ (omega arith) at)
