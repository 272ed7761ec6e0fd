-- `AtRest::clock`: its contract, and its loop over `which`.
use Rattle.std.proofs.Common.{◌≡◌, length, max, ap, ◌∙◌, arith}
use Rattle.pt_gathered.specs.Gathered.{GatheredState}
use Rattle.pt_gathered.specs.Quiet.{latest_below}
use Rattle.pt_gathered.proofs.Clocks.{latest_here}
use Rattle.pt_gathered.proofs.at_rest.AtRest.clock.Goals as goal

pub loop-which-preserved : goal.loop-which-preserved
loop-which-preserved c =
    let inside : GatheredState = record { config = c.self.inside.config; shards = c.self.inside.shards.items; lanes = c.self.inside.lanes.items } in
    c.max-latest.ensures ∙ ap (max c.loop-which.latest) c.clock.ensures
    ∙ latest_here inside c.args.self.now c.self.view_is c.self.invariant c.loop-which.which c.index.result.now (omega arith) c.index.ensures c.loop-which.latest c.loop-which.invariant

pub returns : goal.returns
returns c =
    let same : length c.self.inside.shards.items ≡ length c.args.self.now.shards = ap (λ (g : GatheredState). length g.shards) c.self.view_is in
    c.loop-which.invariant ∙ ap (latest_below c.args.self.now) (omega (arith, same, c.loop-which-test.false, c.loop-which.auto.which-end, c.len-which-end.ensures))
