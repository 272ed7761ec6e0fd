-- `Node::turn_until_still`: its clauses `stopped`, `handled`, `goes_on` and `bound`.
use Rattle.std.proofs.Common.{◌≡◌, ◌-◌, ◌^◌, min, subst, arith}
use Rattle.std.specs.Prelude.{IfSome}
use Rattle.pt_workers.specs.Desks.{AreWhole}
use Rattle.pt_node.specs.Load.{IsWithinLoad}
use Rattle.pt_workers.specs.Stillness.{AllDesksGoOn, StoppedAt, count_events}
use Rattle.pt_node.proofs.Bounding.{bounded}
use Rattle.pt_node.proofs.Receiving.{all_rounds_receive}
use Rattle.pt_node.proofs.RoundByRound.{all_rounds_count, all_rounds_go_on, all_rounds_stopped}
use Rattle.pt_node.proofs.node.Node.turn_until_still.Goals as goal

pub returns-clause-stopped : goal.returns-clause-stopped
returns-clause-stopped c =
    subst (λ n. IfSome c.until_still-rested.result.stopped (λ s. StoppedAt n s c.until_still-rested.new.desks.items)) c.max.ensures
    (all_rounds_stopped c.max.result c.self.inside.desks.items c.until_still-rested.result c.until_still-rested.new.desks.items c.until_still-rested.ensures.rounds)

pub returns-clause-handled : goal.returns-clause-handled
returns-clause-handled c =
    subst (λ ds. c.until_still-rested.result.handled ≡ min (count_events c.until_still-rested.new.desks.items - count_events ds) (2 ^ 64 - 1)) c.self.view_is
    (all_rounds_count c.max.result (omega (arith, c.max.type_inv)) c.self.inside.desks.items c.until_still-rested.result c.until_still-rested.new.desks.items c.until_still-rested.ensures.rounds)

pub returns-clause-goes_on : goal.returns-clause-goes_on
returns-clause-goes_on c =
    subst (λ ds. AllDesksGoOn ds c.until_still-rested.new.desks.items) c.self.view_is
    (all_rounds_go_on c.max.result c.self.inside.desks.items c.until_still-rested.result c.until_still-rested.new.desks.items c.until_still-rested.ensures.rounds)

pub returns-clause-bound : goal.returns-clause-bound
returns-clause-bound c =
    let old = c.self.inside.desks.items in
    let rested = c.until_still-rested.result in
    let new = c.until_still-rested.new.desks.items in
    let turned = c.until_still-rested.ensures in
    let counted = all_rounds_count c.max.result (omega (arith, c.max.type_inv)) old rested new turned.rounds in
    subst (λ ds. IsWithinLoad ds rested.handled) c.self.view_is
    (bounded old new c.self.invariant turned.node (subst AreWhole c.as_slice.ensures.value c.look.ensures) (subst AreWhole c.as_slice-2.ensures.value c.look-2.ensures) turned.lanes.0 turned.lanes.1
    (all_rounds_go_on c.max.result old rested new turned.rounds) (all_rounds_receive c.max.result old rested new turned.rounds) rested.handled (omega (arith, counted)))
