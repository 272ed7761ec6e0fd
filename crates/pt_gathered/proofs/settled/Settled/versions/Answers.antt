-- `Settled::versions`: its clauses `turns`, `later`, `gathered`, `count` and `told`.
use Rattle.std.proofs.Common.{◌≡◌, ℕ, ◌<◌, length, get_or, subst, arith}
use Rattle.pt_accounts.specs.DeskLives.{DeskTable}
use Rattle.pt_shard.specs.ShardState.{ShardState}
use Rattle.pt_gathered.specs.Gathered.{IsGathered}
use Rattle.pt_gathered.specs.Quiet.{AreBornLater, AreInTurn, QuietState}
use Rattle.pt_gathered.specs.Tables.{IsTold}
use Rattle.pt_gathered.proofs.InTurn.{born_later}
use Rattle.pt_gathered.proofs.Told.{told_in_own}
use Rattle.pt_gathered.proofs.settled.Settled.versions.Goals as goal

pub returns-clause-turns : goal.returns-clause-turns
returns-clause-turns c = subst (λ (q : QuietState). AreInTurn q.gathered.shards) c.self.view_is c.versions.ensures

pub returns-clause-later : goal.returns-clause-later
returns-clause-later c = subst (λ (q : QuietState). AreBornLater q.gathered) c.self.view_is (born_later c.self.inside.node c.desks-desks.ensures.gathered c.versions.ensures)

pub returns-clause-gathered : goal.returns-clause-gathered
returns-clause-gathered c = subst (λ (q : QuietState). IsGathered q.gathered) c.self.view_is c.desks-desks.ensures.gathered

pub returns-clause-count : goal.returns-clause-count
returns-clause-count c = subst (λ (q : QuietState). length q.lives ≡ length q.gathered.shards) c.self.view_is c.self.invariant.0.count

pub returns-clause-told : goal.returns-clause-told
returns-clause-told c =
    let g = c.self.inside.node in
    let settled = c.self.invariant.0 in
    subst (λ (q : QuietState). (d : ℕ) (x : ShardState) (t : DeskTable) → d < length q.gathered.shards → IsTold (get_or q.gathered.shards d x) (get_or q.lives d t)) c.self.view_is
    (λ d x t h. told_in_own g c.desks-desks.ensures.gathered d x (get_or c.self.inside.lives d t) h (settled.lives_are.told d t (omega (arith, h, settled.count))))
