-- `Settled::clock`: its clauses `journals`, `shards` and `within`.
use Rattle.std.proofs.Common.{ℕ, ◌<◌, ◌≤◌, length, get_or, sym, subst}
use Rattle.pt_events.specs.Journal.{clock}
use Rattle.pt_signal.specs.declared.config.TheConstants.{MAX_STAMP}
use Rattle.pt_shard.specs.ShardState.{ShardState}
use Rattle.pt_shard.specs.Opening.{fresh_shard}
use Rattle.pt_gathered.specs.Gathered.{journals}
use Rattle.pt_gathered.specs.Quiet.{QuietState}
use Rattle.pt_gathered.proofs.Clocks.{above, shards_above, within}
use Rattle.pt_gathered.proofs.settled.Settled.clock.Goals as goal

pub returns-clause-journals : goal.returns-clause-journals
returns-clause-journals c =
    subst (λ (q : QuietState). (d : ℕ) → clock q.gathered.config.start (journals q.gathered d) ≤ c.clock.result) c.self.view_is
    (subst (λ n. (d : ℕ) → clock c.self.inside.node.config.start (journals c.self.inside.node d) ≤ n) (sym c.clock.ensures) (above c.self.inside.node c.desks-desks.ensures.gathered))

pub returns-clause-shards : goal.returns-clause-shards
returns-clause-shards c =
    subst (λ (q : QuietState). (d : ℕ) (x : ShardState) → d < length q.gathered.shards → (get_or q.gathered.shards d x).clock ≤ c.clock.result) c.self.view_is
    (subst (λ n. (d : ℕ) (x : ShardState) → d < length c.self.inside.node.shards → (get_or c.self.inside.node.shards d x).clock ≤ n) (sym c.clock.ensures) (shards_above c.self.inside.node c.desks-desks.ensures.gathered))

pub returns-clause-within : goal.returns-clause-within
returns-clause-within c =
    subst (λ (q : QuietState). 0 < length q.gathered.shards → c.clock.result ≤ MAX_STAMP) c.self.view_is
    (subst (λ n. 0 < length c.self.inside.node.shards → n ≤ MAX_STAMP) (sym c.clock.ensures) (within c.self.inside.node c.desks-desks.ensures.gathered (fresh_shard c.self.inside.node.config 0)))
