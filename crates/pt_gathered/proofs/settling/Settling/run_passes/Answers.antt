-- `Settling::run_passes`: its clauses `runs`, `stops` and `nothing_left`, and its loop over `more`.
use Rattle.std.proofs.Common.{◌≡◌, Err, ◌+◌, length, refl, subst, arith, rules}
use Rattle.std.specs.Prelude.{⊤}
use Rattle.std.specs.Bool.{MatchBool}
use Rattle.pt_gathered.specs.Settling.{NothingLeft}
use Rattle.pt_gathered.specs.Order.{Pass, PassStops}
use Rattle.pt_gathered.proofs.StepByStep.{runs_same, runs_along, done_after}
use Rattle.pt_gathered.proofs.Ordering.{more_in_turn}
use Rattle.pt_gathered.proofs.settling.Settling.run_passes.Goals as goal

pub loop-more-init : goal.loop-more-init
loop-more-init c =
    let s = c.args.self.now in
    record { runs = runs_same s.node s.handled (omega arith); done = tt; waits = c.requires.waits; least = c.requires.least; order = (0, refl) }

pub loop-more-preserved : goal.loop-more-preserved
loop-more-preserved c =
    let inv = c.loop-more.invariant in
    let s = c.args.self.now in
    let g = c.loop-more.self in
    let g' = c.pass.new.self in
    let did = c.in_ok-more in
    record {
      runs = runs_along s.node s.handled g.node g.handled g'.node g'.handled inv.runs c.pass.ensures.runs;
      done = done_after g.node g'.node _ did.ensures.moves;
      waits = did.ensures.waits;
      least = did.ensures.least;
      order = (inv.order.0 + 1, more_in_turn (Pass (length s.node.shards)) inv.order.0 s.node g.node g'.node inv.order.1 (subst (λ n. Pass n 0 g.node g'.node) inv.runs.settles.count did.ensures.order));
    }

pub returns-in_err-more-clause-runs : goal.returns-in_err-more-clause-runs
returns-in_err-more-clause-runs c =
    let s = c.args.self.now in
    let g = c.loop-more.self in
    let g' = c.pass.new.self in
    runs_along s.node s.handled g.node g.handled g'.node g'.handled c.loop-more.invariant.runs c.pass.ensures.runs

pub returns-in_err-more-clause-stops : goal.returns-in_err-more-clause-stops
returns-in_err-more-clause-stops c =
    let inv = c.loop-more.invariant in
    let e : c.from_residual.result ≡ Err c.in_err-more.field-0.0 = search rules in
    rw e (record {
      count = inv.order.0;
      mid = c.loop-more.self.node;
      done = inv.order.1;
      stops = subst (λ n. PassStops n c.in_err-more.field-0.0 c.loop-more.self.node c.pass.new.self.node) inv.runs.settles.count c.in_err-more.ensures.stops;
    })

pub returns-clause-nothing_left : goal.returns-clause-nothing_left
returns-clause-nothing_left c = subst (λ b. MatchBool b ⊤ (NothingLeft c.loop-more.self.node)) c.loop-more-test.false c.loop-more.invariant.done
