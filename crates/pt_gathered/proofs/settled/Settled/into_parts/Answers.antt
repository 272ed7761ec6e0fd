-- `Settled::into_parts`: its clause `told`.
use Rattle.std.proofs.Common.{ℕ, ◌<◌, length, get_or, subst, arith}
use Rattle.pt_accounts.specs.DeskLives.{DeskTable}
use Rattle.pt_shard.specs.ShardState.{ShardState}
use Rattle.pt_gathered.specs.Quiet.{QuietState}
use Rattle.pt_gathered.specs.Tables.{IsTold}
use Rattle.pt_gathered.proofs.Told.{told_in_own}
use Rattle.pt_gathered.proofs.settled.Settled.into_parts.Goals as goal

pub returns-clause-told : goal.returns-clause-told
returns-clause-told c =
    let g = c.self.inside.node in
    let settled = c.self.invariant.0 in
    subst (λ (q : QuietState). (d : ℕ) (x : ShardState) (t : DeskTable) → d < length q.gathered.shards → IsTold (get_or q.gathered.shards d x) (get_or q.lives d t)) c.self.view_is
    (λ d x t h. told_in_own g c.desks-desks.ensures.gathered d x (get_or c.self.inside.lives d t) h (settled.lives_are.told d t (omega (arith, h, settled.count))))
