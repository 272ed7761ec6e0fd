-- `Clocks::set`: its contract.
use Rattle.std.proofs.Common.{◌≡◌, ◌==◌, ℕ, List, cond, subst}
use Rattle.pt_auditor.specs.Lanes.{stamp_noted}
use Rattle.pt_auditor.proofs.Laid.{noted}
use Rattle.pt_auditor.proofs.clocks.Clocks.set.Goals as goal

pub returns : goal.returns
returns c =
    let new = c.insert.new.self.entries in
    subst (λ (z : List (ℕ × ℕ)). (d : ℕ) → stamp_noted new d ≡ cond (c.args.desk == d) c.args.stamp (stamp_noted z d)) c.self.view_is
    (noted c.args.desk c.args.stamp c.self.inside.stamps.entries new c.in_ok-insert.ensures.updates.0)
