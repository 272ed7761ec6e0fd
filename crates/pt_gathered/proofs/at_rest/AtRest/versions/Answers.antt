-- `AtRest::versions`: its contract, and its loop over `which`.
use Rattle.std.proofs.Common.{◌≡◌, ◌∙◌, false, get_or, length, ap, subst, below_more, arith}
use Rattle.std.proofs.lemmas.List.{get_or_default}
use Rattle.pt_signal.specs.declared.pid.Pid.{Pid}
use Rattle.pt_events.specs.History.{is_unborn}
use Rattle.pt_shard.specs.ShardState.{ShardState, phase_of}
use Rattle.pt_shard.specs.InTurn.{IsInTurn}
use Rattle.pt_gathered.specs.Gathered.{GatheredState}
use Rattle.pt_gathered.proofs.at_rest.AtRest.versions.Goals as goal

abbrev InTurn : ShardState → Type 0
InTurn s = (p : Pid) → is_unborn (phase_of s p) ≡ false → IsInTurn s p

pub loop-which-preserved : goal.loop-which-preserved
loop-which-preserved c d x h =
    let inside = c.self.inside.shards.items in
    let k = c.loop-which.which in
    let r = c.index.result.now in
    let same : inside ≡ c.args.self.now.shards = ap (λ (g : GatheredState). g.shards) c.self.view_is in
    below_more (λ i. (y : ShardState) → InTurn (get_or c.args.self.now.shards i y)) k (λ i l y. c.loop-which.invariant i y l)
    (λ y. subst InTurn (c.index.ensures ∙ get_or_default inside k r y (omega arith) ∙ ap (λ z. get_or z k y) same) c.versions.ensures) d h x

pub returns : goal.returns
returns c d x h =
    let same : length c.self.inside.shards.items ≡ length c.args.self.now.shards = ap (λ (g : GatheredState). length g.shards) c.self.view_is in
    c.loop-which.invariant d x (omega (arith, h, same, c.loop-which-test.false, c.loop-which.auto.which-end, c.len-which-end.ensures))
