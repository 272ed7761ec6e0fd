-- `take_each`: its clause `takes`, and its loop over `count`.
use Rattle.std.proofs.Common.{◌≡◌, rules, Ok, Err, Some, None, inr, refl, sym, ap, subst, add-one, ◌∙◌, Result, Option}
use Rattle.pt_signal.specs.declared.item.Item.{Item}
use Rattle.pt_shard.specs.declared.fault.Fault.{Fault}
use Rattle.pt_desk.proofs.Turning.{goes_on_then}
use Rattle.pt_workers.specs.Taking.{AsksForItem, TakesEach, TakesMany}
use Rattle.pt_workers.proofs.taking.take_each.Goals as goal

pub returns-in_err-item-clause-takes : goal.returns-in_err-item-clause-takes
returns-in_err-item-clause-takes g c =
    let refused : c.from_residual.result ≡ Err c.in_err-item.field-0.0 = search rules in
    let asks : AsksForItem c.args.p c.args.pick c.loop-count.desk (Err c.in_err-item.field-0.0) c.receive.new.self = (c.in_err-item.ensures.does, c.in_err-item.ensures.ends, c.in_err-item.ensures.sight) in
    subst (λ r. TakesEach g.T.Takes.takes c.args.p c.args.pick c.args.most (c.args.desk.now, c.args.to.now) r (c.receive.new.self, c.loop-count.to)) (sym refused)
    (c.loop-count.count, c.loop-count-test.true, record { mid = (c.loop-count.desk, c.loop-count.to); took = c.loop-count.invariant.took; asks = asks; same = refl })

pub returns-in_default-clause-takes : goal.returns-in_default-clause-takes
returns-in_default-clause-takes g c =
    let none : c.receive.result ≡ Ok None = c.in_ok-item.was ∙ ap Ok c.in_default.is in
    let asks = subst (λ (r : Result (Option Item) Fault). AsksForItem c.args.p c.args.pick c.loop-count.desk r c.receive.new.self) none (c.receive.ensures.does, c.receive.ensures.ends, c.receive.ensures.sight) in
    inr (c.loop-count-test.true, record { mid = (c.loop-count.desk, c.loop-count.to); took = c.loop-count.invariant.took; asks = asks; same = refl })

pub loop-count-preserved : goal.loop-count-preserved
loop-count-preserved g c =
    let some : c.receive.result ≡ Ok (Some c.in-Some.item) = c.in_ok-item.was ∙ ap Ok c.in-Some.is in
    let asks = subst (λ (r : Result (Option Item) Fault). AsksForItem c.args.p c.args.pick c.loop-count.desk r c.receive.new.self) some (c.receive.ensures.does, c.receive.ensures.ends, c.receive.ensures.sight) in
    record {
      goes_on = goes_on_then _ _ _ c.loop-count.invariant.goes_on (goes_on_then _ _ _ c.receive.ensures.goes_on c.take.ensures.goes_on);
      took = subst (λ n. TakesMany g.T.Takes.takes c.args.p c.args.pick n (c.args.desk.now, c.args.to.now) (c.take.new.desk, c.take.new.self)) (sym (add-one c.loop-count.count))
          ((c.loop-count.desk, c.loop-count.to), c.loop-count.invariant.took, record { item = c.in-Some.item; taken = c.receive.new.self; asks = asks; hands = c.take.ensures.takes });
    }
