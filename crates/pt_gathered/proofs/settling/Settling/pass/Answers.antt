-- `Settling::pass`: its clauses `runs` and `stops`, and its loop over `e`.
use Rattle.std.proofs.Common.{◌≡◌, Err, ℕ, length, refl, subst, arith, rules}
use Rattle.pt_gathered.specs.Gathered.{GatheredState}
use Rattle.pt_gathered.specs.Settling.{NothingTo}
use Rattle.pt_gathered.specs.Order.{DeskComes, DeskStops}
use Rattle.pt_gathered.proofs.StepByStep.{runs_same, runs_along, after_either}
use Rattle.pt_gathered.proofs.Ordering.{more_in_turn}
use Rattle.pt_gathered.proofs.settling.Settling.pass.Goals as goal

pub loop-e-init : goal.loop-e-init
loop-e-init c =
    let s = c.args.self.now in
    record { runs = runs_same s.node s.handled (omega arith); moved = (refl, λ k h. absurd (omega arith)); waits = c.requires.waits; least = c.requires.least; order = refl }

pub returns-in_err-moved-clause-runs : goal.returns-in_err-moved-clause-runs
returns-in_err-moved-clause-runs c =
    let s = c.args.self.now in
    let g = c.loop-e.self in
    let g' = c.settle_desk.new.self in
    runs_along s.node s.handled g.node g.handled g'.node g'.handled c.loop-e.invariant.runs c.settle_desk.ensures.runs

pub returns-in_err-moved-clause-stops : goal.returns-in_err-moved-clause-stops
returns-in_err-moved-clause-stops c =
    let inv = c.loop-e.invariant in
    let e : c.from_residual.result ≡ Err c.in_err-moved.field-0.0 = search rules in
    rw e (record {
      at = c.loop-e.e;
      within = omega (arith, c.loop-e-test.true, c.desks-e-end.ensures.count);
      mid = c.loop-e.self.node;
      done = inv.order;
      stops = subst (λ n. DeskStops n c.loop-e.e c.in_err-moved.field-0.0 c.loop-e.self.node c.settle_desk.new.self.node) inv.runs.settles.count c.in_err-moved.ensures.stops;
    })

pub loop-e-preserved : goal.loop-e-preserved
loop-e-preserved c =
    let inv = c.loop-e.invariant in
    let s = c.args.self.now in
    let g = c.loop-e.self in
    let g' = c.settle_desk.new.self in
    let P : ℕ → GatheredState → Type 0 = λ k x. NothingTo (length x.shards) k x in
    let did = c.in_ok-moved in
    record {
      runs = runs_along s.node s.handled g.node g.handled g'.node g'.handled inv.runs c.settle_desk.ensures.runs;
      moved = after_either s.node g.node g'.node P c.loop-e.e c.loop-e.moved did.field-0 inv.moved inv.runs.settles.grows did.ensures.moves;
      waits = did.ensures.waits;
      least = did.ensures.least;
      order = more_in_turn (DeskComes (length s.node.shards)) c.loop-e.e s.node g.node g'.node inv.order (subst (λ n. DeskComes n c.loop-e.e g.node g'.node) inv.runs.settles.count did.ensures.order);
    }
