-- `Desk::journal`: its clauses `posted` and `collected`.
use Rattle.std.proofs.Common.{subst}
use Rattle.pt_desk.specs.DeskState.{IsDesk}
use Rattle.pt_desk.proofs.Accounts.{posted_to_every, collected_from_every}
use Rattle.pt_desk.proofs.desk.Desk.journal.Goals as goal

pub returns-clause-posted : goal.returns-clause-posted
returns-clause-posted c =
    let d = c.args.self.now in
    let whole = subst IsDesk c.self.view_is c.self.invariant.0 in
    posted_to_every d.shard d.outs d.ins whole.fit whole.accounts

pub returns-clause-collected : goal.returns-clause-collected
returns-clause-collected c =
    let d = c.args.self.now in
    let whole = subst IsDesk c.self.view_is c.self.invariant.0 in
    collected_from_every d.shard d.outs d.ins whole.fit whole.accounts
