-- `Desk::handle_held`: the invariant of `self`, and what its call of `tell_ended` asks.
use Rattle.std.proofs.Common.{◌≡◌, ◌<◌, None, refl, sym, ap, ◌∙◌, subst, arith}
use Rattle.std.specs.Prelude.{IfSome}
use Rattle.std.specs.Arc.{arc_value}
use Rattle.pt_shard.specs.ShardState.{ShardState}
use Rattle.pt_shard.specs.Outbox.{holding}
use Rattle.pt_desk.specs.InPlace.{CanTell, seat_told}
use Rattle.pt_desk.proofs.Turning.{held_accounted}
use Rattle.pt_desk.proofs.Seating.{same_journal}
use Rattle.pt_desk.proofs.Telling.{may_tell_ended, handled_whole}
use Rattle.pt_desk.proofs.desk.Desk.handle_held.Goals as goal

pub tell_ended-requires : goal.tell_ended-requires
tell_ended-requires c =
    let i = c.self.inside in
    let does = c.in_ok-ended.ensures.does in
    let l = c.in-Some.letter in
    let now = ap (λ (z : ShardState). z.clock) (c.take_hold.ensures.rest ∙ ap (holding None) does.1) in
    let held = (subst (λ o. IfSome o (λ m. (m.to.shard ≡ i.shard.number) × (m.from.shard < i.shard.config.desks))) (sym c.held.ensures ∙ c.in-Some.is) c.self.invariant.0.fit.held).0 in
    subst (λ directory. IfSome c.in_ok-ended.ended (CanTell directory i.seat c.take_hold.new.self.clock)) (sym c.deref.ensures)
    (may_tell_ended i.shard i.outs i.ins (arc_value i.directory) i.seat i.before c.self.invariant l held c.take_hold.new.self.clock (omega (arith, now)) c.in_ok-ended.ended does.2)

pub invariant_of-self-2 : goal.invariant_of-self-2
invariant_of-self-2 c =
    let i = c.self.inside in
    let does = c.in_ok-ended.ensures.does in
    let l = c.in-Some.letter in
    let is = c.take_hold.ensures.rest ∙ ap (holding None) does.1 in
    handled_whole i.shard i.outs i.ins (arc_value i.directory) i.seat i.before c.self.invariant l c.take_hold.new.self i.outs i.ins c.in_ok-ended.ended c.tell_ended.new.seat
    (same_journal _ _ _ refl refl refl refl is)
    does.2 (c.tell_ended.ensures ∙ ap (λ m. seat_told c.in_ok-ended.ended m i.seat) (ap (λ (z : ShardState). z.clock) is))
    c.take_hold.ensures.fit
    (held_accounted i.shard c.handle.new.self c.take_hold.new.self i.outs i.ins l c.self.invariant.0.fit.boxes c.self.invariant.0.accounts (sym c.held.ensures ∙ c.in-Some.is) does.1 c.take_hold.ensures.rest)
