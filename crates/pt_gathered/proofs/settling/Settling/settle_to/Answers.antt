-- `Settling::settle_to`: its clauses `runs`, `stops` and `none`, and its loop over `d`, and what its call of `settle_lane` asks.
use Rattle.std.proofs.Common.{◌≡◌, Err, ℕ, ◌<◌, ◌∙◌, [], length, below_more, refl, arith, rules}
use Rattle.pt_gathered.specs.Gathered.{GatheredState, over_in}
use Rattle.pt_gathered.specs.Order.{LaneComes}
use Rattle.pt_gathered.specs.Waits.{posted_in}
use Rattle.pt_gathered.proofs.StepByStep.{runs_same, runs_along, after_either}
use Rattle.pt_gathered.proofs.Ordering.{more_in_turn}
use Rattle.pt_gathered.proofs.Posted.{keeps_same, keeps_along}
use Rattle.pt_gathered.proofs.settling.Settling.settle_to.Goals as goal

pub loop-d-init : goal.loop-d-init
loop-d-init c =
    let s = c.args.self.now in
    record {
      runs = runs_same s.node s.handled (omega arith);
      moved = (refl, λ k h. absurd (omega arith));
      order = refl;
      keeps = keeps_same s.node;
      none = λ k h. absurd (omega arith);
      waits = refl;
      least = refl;
    }

pub returns-in_err-moved-clause-runs : goal.returns-in_err-moved-clause-runs
returns-in_err-moved-clause-runs c =
    let s = c.args.self.now in
    let g = c.loop-d.self in
    let g' = c.settle_lane.new.self in
    runs_along s.node s.handled g.node g.handled g'.node g'.handled c.loop-d.invariant.runs c.settle_lane.ensures.runs

pub returns-in_err-moved-clause-stops : goal.returns-in_err-moved-clause-stops
returns-in_err-moved-clause-stops c =
    let e : c.from_residual.result ≡ Err c.in_err-moved.field-0.0 = search rules in
    rw e (record { at = c.loop-d.d; within = omega (arith, c.loop-d-test.true, c.desks-d-end.ensures.count); mid = c.loop-d.self.node; done = c.loop-d.invariant.order; stops = c.in_err-moved.ensures.stops })

pub loop-d-preserved : goal.loop-d-preserved
loop-d-preserved c =
    let inv = c.loop-d.invariant in
    let s = c.args.self.now in
    let g = c.loop-d.self in
    let g' = c.settle_lane.new.self in
    let did = c.in_ok-moved in
    let d_in : c.loop-d.d < length g.node.shards = omega (arith, c.loop-d-test.true, c.desks-d-end.ensures.count, inv.runs.settles.count) in
    let e_in : c.args.e < length g.node.shards = omega (arith, c.requires.desk, inv.runs.settles.count) in
    let P : ℕ → GatheredState → Type 0 = λ k x. over_in x.shards x.lanes k c.args.e ≡ [] in
    record {
      runs = runs_along s.node s.handled g.node g.handled g'.node g'.handled inv.runs c.settle_lane.ensures.runs;
      moved = after_either s.node g.node g'.node P c.loop-d.d c.loop-d.moved did.field-0 inv.moved inv.runs.settles.grows did.ensures.moves;
      order = more_in_turn (LaneComes c.args.e) c.loop-d.d s.node g.node g'.node inv.order did.ensures.order;
      keeps = keeps_along s.node g.node g'.node inv.runs.settles.count inv.keeps did.ensures.keeps;
      none = below_more (λ k. posted_in g'.node.shards g'.node.lanes k c.args.e ≡ []) c.loop-d.d (λ k l. did.ensures.keeps k c.args.e (omega (arith, l, d_in)) e_in (inv.none k l)) did.ensures.none;
      waits = c.settle_lane.ensures.marks.0 ∙ inv.waits;
      least = c.settle_lane.ensures.marks.1 ∙ inv.least;
    }

pub settle_lane-requires-clause-least : goal.settle_lane-requires-clause-least
settle_lane-requires-clause-least c =
    let d_in : c.loop-d.d < length c.args.self.now.node.shards = omega (arith, c.loop-d-test.true, c.desks-d-end.ensures.count) in
    (c.requires.least.0, λ some. c.loop-d.invariant.keeps c.loop-d.d c.args.e d_in c.requires.desk (c.requires.least.1 some c.loop-d.d d_in))

pub returns-clause-none : goal.returns-clause-none
returns-clause-none c d h = c.loop-d.invariant.none d (omega (arith, h, c.loop-d-test.false, c.desks-d-end.ensures.count, c.loop-d.invariant.runs.settles.count))
