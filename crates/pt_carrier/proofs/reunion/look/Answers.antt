-- `look`: its clause `node`, and its loop over `e`, and what its call of `meet_at` asks.
use Rattle.std.proofs.Common.{arith, sym, subst, ◌∙◌, below_more, inl, inr}
use Rattle.pt_carrier.specs.Node.{IsNode}
use Rattle.pt_carrier.specs.Reunion.{WholeAt}
use Rattle.pt_carrier.proofs.Places.{kept_places}
use Rattle.pt_carrier.proofs.Meeting.{WholeAt-kept}
use Rattle.pt_carrier.proofs.reunion.look.Goals as goal

pub meet_at-requires-clause-node : goal.meet_at-requires-clause-node
meet_at-requires-clause-node c =
    subst IsNode (sym (kept_places c.loop-e.pairs c.args.pairs.now c.loop-e.invariant.kept)) c.requires

pub loop-e-preserved : goal.loop-e-preserved
loop-e-preserved c =
    let inv = c.loop-e.invariant in
    let met = c.meet_at.ensures in
    record {
      kept = met.kept ∙ inv.kept;
      whole = λ i j l m. WholeAt-kept c.loop-e.pairs c.meet_at.new.pairs c.loop-d.d c.loop-e.e i j met (inr (λ w. omega arith)) (inv.whole i j l m);
      row = below_more (λ j. WholeAt c.meet_at.new.pairs c.loop-d.d j) c.loop-e.e
          (λ j m. WholeAt-kept c.loop-e.pairs c.meet_at.new.pairs c.loop-d.d c.loop-e.e c.loop-d.d j met (inl (λ w. omega arith)) (inv.row j m))
          met.whole;
    }
