-- `prepare_anew`: its clauses `range` and `ended`, and what its call of `take_room` asks.
use Rattle.std.proofs.Common.{◌<◌, map, sym, subst, ◌∙◌}
use Rattle.pt_directory.specs.Seats.{AreEnded}
use Rattle.pt_signal.specs.declared.config.Config.{Config}
use Rattle.pt_signal.specs.Settings.{IsInRange}
use Rattle.pt_gathered.specs.Quiet.{ends_of}
use Rattle.std.specs.Prelude.{IfOk}
use Rattle.std.specs.Arc.{arc_value}
use Rattle.pt_node.specs.Seating.{AreFreshSeats}
use Rattle.pt_node.proofs.Prepared.{ended_here, range}
use Rattle.pt_node.proofs.Ready.{if_ready}
use Rattle.pt_node.proofs.resuming.prepare_anew.Goals as goal

pub take_room-requires-clause-range : goal.take_room-requires-clause-range
take_room-requires-clause-range c =
    subst (λ (k : Config). IsInRange (record k { start = c.args.start })) (sym c.config.ensures) (range c.args.settled.now.gathered c.versions.ensures.gathered c.args.start c.requires.within)

pub take_room-requires-clause-ended : goal.take_room-requires-clause-ended
take_room-requires-clause-ended c =
    let q = c.args.settled.now in
    let n = c.args.start in
    subst (AreEnded c.config.result.desks c.config.result.slots) (sym (c.as_slice.ensures.value ∙ c.in_ok-ended.ensures))
    (subst (λ (k : Config). AreEnded k.desks k.slots (ends_of n q.lives)) (sym c.config.ensures)
    (ended_here q.gathered c.versions.ensures.gathered n c.requires.within q.lives c.versions.ensures.count c.versions.ensures.told c.versions.ensures.turns
    (λ d x h p born. subst (λ k. 0 < k) (sym c.requires.latest) (c.versions.ensures.later d x h p born))))

pub returns-clause-seats : goal.returns-clause-seats
returns-clause-seats c =
    let q = c.args.settled.now in
    let n = c.args.start in
    if_ready q.gathered c.versions.ensures.gathered n c.requires.within q.lives c.versions.ensures.count c.versions.ensures.told c.versions.ensures.turns
    (λ d x h p born. subst (λ k. 0 < k) (sym c.requires.latest) (c.versions.ensures.later d x h p born))
    c.take_room.result
    (subst (λ (k : Config). IfOk c.take_room.result (λ room. AreFreshSeats (record k { start = n }) (ends_of n q.lives) (map (λ p. (arc_value p.0, p.1)) room.seats.items))) c.config.ensures
    (subst (λ e. IfOk c.take_room.result (λ room. AreFreshSeats (record c.config.result { start = n }) e (map (λ p. (arc_value p.0, p.1)) room.seats.items))) (c.as_slice.ensures.value ∙ c.in_ok-ended.ensures) c.take_room.ensures.seats))
