-- `settled`: its clauses `desks` and `lawful`.
use Rattle.std.proofs.Common.{ap, subst, ◌∙◌}
use Rattle.pt_gathered.specs.Gathered.{GatheredState, IsGathered}
use Rattle.pt_gathered.specs.Quiet.{QuietState}
use Rattle.example_scenes.proofs.team.settled.Goals as goal

pub returns-clause-desks : goal.returns-clause-desks
returns-clause-desks c =
    λ still. ap (λ (g : GatheredState). g.shards) (c.in_ok-quiet.ensures.again (c.in_ok-gather.ensures.still still)).0 ∙ c.in_ok-gather.ensures.gathers.shards

pub returns-clause-lawful : goal.returns-clause-lawful
returns-clause-lawful c = (
  subst (λ (q : QuietState). IsGathered q.gathered) c.settled.ensures c.desks-desks.ensures.gathered,
  record { quiet = c.in_ok-quiet.ensures.quiet; links = c.in_ok-quiet.ensures.links; watches = c.in_ok-quiet.ensures.watches },
)
