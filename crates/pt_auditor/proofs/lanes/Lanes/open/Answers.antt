-- `Lanes::open`: its contract.
use Rattle.std.proofs.Common.{Some, ◌∷◌, [], subst}
use Rattle.pt_auditor.specs.Lanes.{Laid, IsLaid}
use Rattle.pt_auditor.proofs.Laid.{updated}
use Rattle.pt_auditor.proofs.lanes.Lanes.open.Goals as goal

pub returns : goal.returns
returns c =
    let d = c.args.letter.from.shard in
    let e = c.args.letter.to.shard in
    let new = c.insert.new.self.entries in
    subst (λ (z : Laid). IsLaid d e (c.args.letter ∷ []) z new) c.self.view_is
    (subst (λ z. IsLaid d e z c.self.inside.pairs.entries new) c.in_ok-queue.ensures
    (updated d e c.self.inside.pairs.entries new (Some c.in_ok-queue.queue) c.in_ok-insert.ensures.updates.0))
