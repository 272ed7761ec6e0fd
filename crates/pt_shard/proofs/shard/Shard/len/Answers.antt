-- `Shard::len`: its contract.
use Rattle.std.proofs.Common.{◌≡◌, ◌∙◌, subst}
use Rattle.pt_shard.specs.Living.{living_count}
use Rattle.pt_shard.specs.Whole.{parts_of}
use Rattle.pt_shard.proofs.Counted.{living_counted}
use Rattle.pt_shard.proofs.shard.Shard.len.Goals as goal

pub returns : goal.returns
returns c =
    let i = c.self.inside in
    subst (λ d. c.len.result ≡ living_count d) c.self.view_is (c.len.ensures ∙ living_counted (parts_of i.config i.ledger.book i.processes) c.self.invariant)
