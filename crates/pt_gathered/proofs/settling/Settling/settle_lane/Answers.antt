-- `Settling::settle_lane`: its clauses `runs`, `stops`, `order`, `keeps` and `none`, and its loop over `k`.
use Rattle.std.proofs.Common.{◌≡◌, Err, ◌<◌, true, Ok, drop, length, refl, sym, ap, ◌∙◌, subst, add-one, arith, rules}
use Rattle.pt_gathered.specs.Settling.{Steps, Runs}
use Rattle.pt_gathered.specs.Order.{ComesOnce}
use Rattle.pt_gathered.specs.Waits.{StepsPosted, posted_in}
use Rattle.pt_gathered.proofs.Posted.{keeps_same, keeps_along, posted_dropped}
use Rattle.pt_gathered.proofs.StepByStep.{runs_same, runs_along, step_runs, step_moves, same_after}
use Rattle.pt_gathered.proofs.Ordering.{more_in_turn, one_left, lane_stops, drop_more}
use Rattle.pt_gathered.proofs.settling.Settling.settle_lane.Goals as goal
use Rattle.pt_gathered.proofs.settling.Settling.settle_lane.Goals.{Then-not-more}

pub loop-k-init : goal.loop-k-init
loop-k-init c =
    let s = c.args.self.now in
    record { runs = runs_same s.node s.handled (omega arith); moved = (refl, refl); comes = refl; keeps = keeps_same s.node; posted = refl; waits = refl; least = refl }

pub loop-k-preserved : goal.loop-k-preserved
loop-k-preserved c =
    let inv = c.loop-k.invariant in
    let s = c.args.self.now in
    let g = c.loop-k.self in
    let new = c.step.new.self in
    let d = c.args.d in
    let e = c.args.e in
    let is : c.in_ok-more.more ≡ true = c.if-not-more.false in
    let did = subst (λ b. Steps d e g.node (Ok b) new) is c.in_ok-more.ensures.does in
    let took = subst (λ b. StepsPosted d e g.node (Ok b) new) is c.in_ok-more.ensures.posted in
    let d_in : d < length g.node.shards = omega (arith, c.requires.within.0, inv.runs.settles.count) in
    let e_in : e < length g.node.shards = omega (arith, c.requires.within.1, inv.runs.settles.count) in
    let ran : Runs g.node g.handled new c.saturating_add-self.result = rw c.saturating_add-self.ensures (step_runs g.node new d e did.0 did.1 d_in e_in c.step.ensures.begun g.handled) in
    let posted = posted_in s.node.shards s.node.lanes d e in
    record {
      runs = runs_along s.node s.handled g.node g.handled new c.saturating_add-self.result inv.runs ran;
      moved = omega (arith, inv.runs.settles.grows, step_moves g.node new d e did.0 did.1 d_in e_in);
      comes = more_in_turn (ComesOnce d e) c.loop-k._k s.node g.node new inv.comes did;
      keeps = keeps_along s.node g.node new inv.runs.settles.count inv.keeps took.0;
      posted = took.1 ∙ ap (drop 1) inv.posted ∙ (drop_more c.loop-k._k posted ∙ ap (λ n. drop n posted) (sym (add-one c.loop-k._k)));
      waits = inv.waits;
      least = inv.least;
    }

pub returns-in_err-more-clause-runs : goal.returns-in_err-more-clause-runs
returns-in_err-more-clause-runs c =
    subst (λ g. Runs c.args.self.now.node c.args.self.now.handled g c.loop-k.self.handled) (sym (same_after c.args.d c.args.e c.loop-k.self.node c.step.new.self _ c.in_err-more.ensures.does)) c.loop-k.invariant.runs

pub returns-in_err-more-clause-stops : goal.returns-in_err-more-clause-stops
returns-in_err-more-clause-stops c =
    let e : c.from_residual.result ≡ Err c.in_err-more.field-0.0 = search rules in
    rw e (lane_stops c.args.d c.args.e c.loop-k._k c.args.self.now.node c.loop-k.self.node c.step.new.self _ c.loop-k.invariant.comes (omega (arith, c.loop-k-test.true, c.count_over-k-end.ensures)) c.in_err-more.ensures.does)

-- each letter that was counted is there
still_there : (c : Then-not-more) → ⊥
still_there c =
    let none = subst (λ b. Steps c.args.d c.args.e c.loop-k.self.node (Ok b) c.step.new.self) c.if-not-more.true c.in_ok-more.ensures.does in
    one_left c.args.d c.args.e c.loop-k._k c.args.self.now.node c.loop-k.self.node c.loop-k.invariant.comes c.requires.within.0 c.requires.within.1 (omega (arith, c.loop-k-test.true, c.count_over-k-end.ensures)) none.0

pub returns-then-not-more-clause-order : goal.returns-then-not-more-clause-order
returns-then-not-more-clause-order c = absurd (still_there c)

pub returns-then-not-more-clause-keeps : goal.returns-then-not-more-clause-keeps
returns-then-not-more-clause-keeps c = absurd (still_there c)

pub returns-then-not-more-clause-none : goal.returns-then-not-more-clause-none
returns-then-not-more-clause-none c = absurd (still_there c)

pub returns-clause-none : goal.returns-clause-none
returns-clause-none c =
    let g = c.args.self.now.node in
    c.loop-k.invariant.posted ∙ posted_dropped g.shards g.lanes c.args.d c.args.e c.loop-k._k (omega (arith, c.loop-k-test.false, c.count_over-k-end.ensures))
