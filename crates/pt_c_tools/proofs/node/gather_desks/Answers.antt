-- `gather_desks`: its contract, and what its call of `gather_whole` asks.
use Rattle.std.proofs.Common.{List, map, refl, sym, ◌∙◌, subst, arith}
use Rattle.std.proofs.lemmas.List.{length-map}
use Rattle.pt_desk.specs.DeskState.{DeskState}
use Rattle.pt_workers.specs.Desks.{AreDesks}
use Rattle.pt_c_values.specs.Places.{HandlePlace, values}
use Rattle.pt_c_tools.specs.Nodes.{AreAllFull}
use Rattle.pt_c_tools.proofs.Joining.{bad_order, gathers_whole, order_is}
use Rattle.pt_c_tools.proofs.node.gather_desks.Goals as goal

pub returns-then-not-are_in_order : goal.returns-then-not-are_in_order
returns-then-not-are_in_order c =
    let all : AreAllFull (map (λ h. h.state) c.args.desks.now) = (
      omega (arith, c.count_full-count.ensures.count, c.if-count-eq0.false, c.if-count-desks.false, length-map c.args.desks.now (λ h. h.state)),
      omega (arith, c.count_full-count.ensures.count, c.if-count-desks.false, length-map c.args.desks.now (λ h. h.state)),
    ) in
    bad_order (map (λ h. h.state) c.args.desks.now) (map (λ h. h.state) c.are_in_order.new.desks) c.args.out.now.state c.args.out.now.state c.open_code.result c.open_code.ensures (c.are_in_order.ensures.same ∙ c.count_full-count.ensures.same) refl all
    (sym (order_is (λ h. h.state) c.args.desks.now c.count_full-count.new.desks c.count_full-count.ensures.same) ∙ sym c.are_in_order.ensures.order ∙ c.if-not-are_in_order.true)

pub gather_whole-requires-clause-full : goal.gather_whole-requires-clause-full
gather_whole-requires-clause-full c =
    subst AreAllFull (sym (c.are_in_order.ensures.same ∙ c.count_full-count.ensures.same)) (
      omega (arith, c.count_full-count.ensures.count, c.if-count-eq0.false, c.if-count-desks.false, length-map c.args.desks.now (λ h. h.state)),
      omega (arith, c.count_full-count.ensures.count, c.if-count-desks.false, length-map c.args.desks.now (λ h. h.state)),
    )

pub gather_whole-requires-clause-node : goal.gather_whole-requires-clause-node
gather_whole-requires-clause-node c =
    let all : AreAllFull (map (λ h. h.state) c.args.desks.now) = (
      omega (arith, c.count_full-count.ensures.count, c.if-count-eq0.false, c.if-count-desks.false, length-map c.args.desks.now (λ h. h.state)),
      omega (arith, c.count_full-count.ensures.count, c.if-count-desks.false, length-map c.args.desks.now (λ h. h.state)),
    ) in
    subst (λ (p : List (HandlePlace DeskState)). AreDesks (values p)) (sym (c.are_in_order.ensures.same ∙ c.count_full-count.ensures.same))
    (c.requires (all, sym (order_is (λ h. h.state) c.args.desks.now c.count_full-count.new.desks c.count_full-count.ensures.same) ∙ sym c.are_in_order.ensures.order ∙ c.if-not-are_in_order.false))

pub returns : goal.returns
returns c =
    let all : AreAllFull (map (λ h. h.state) c.args.desks.now) = (
      omega (arith, c.count_full-count.ensures.count, c.if-count-eq0.false, c.if-count-desks.false, length-map c.args.desks.now (λ h. h.state)),
      omega (arith, c.count_full-count.ensures.count, c.if-count-desks.false, length-map c.args.desks.now (λ h. h.state)),
    ) in
    gathers_whole (map (λ h. h.state) c.args.desks.now) (map (λ h. h.state) c.gather_whole.new.desks) c.args.out.now.state c.gather_whole.new.out.state c.gather_whole.result (map (λ h. h.state) c.are_in_order.new.desks) (c.are_in_order.ensures.same ∙ c.count_full-count.ensures.same) all
    (sym (order_is (λ h. h.state) c.args.desks.now c.count_full-count.new.desks c.count_full-count.ensures.same) ∙ sym c.are_in_order.ensures.order ∙ c.if-not-are_in_order.false) c.gather_whole.ensures
