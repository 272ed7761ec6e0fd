-- `AtRest::desks`: its clause `few`.
use Rattle.std.proofs.Common.{◌≤◌, length, subst}
use Rattle.pt_gathered.specs.Gathered.{GatheredState}
use Rattle.pt_gathered.proofs.Agreeing.{few_desks}
use Rattle.pt_gathered.proofs.at_rest.AtRest.desks.Goals as goal

pub returns-clause-few : goal.returns-clause-few
returns-clause-few c =
    subst (λ (g : GatheredState). length g.shards ≤ 64) c.self.view_is (few_desks c.self.inside.config c.self.inside.shards.items c.self.inside.lanes.items c.self.invariant)
