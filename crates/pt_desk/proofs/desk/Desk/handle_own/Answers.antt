-- `Desk::handle_own`: its contract, the invariant of `self`, and what its call of `tell_ended` asks.
use Rattle.std.proofs.Common.{Ok, Err, sym, subst}
use Rattle.std.specs.Prelude.{IfSome}
use Rattle.std.specs.Arc.{arc_value}
use Rattle.pt_desk.specs.InPlace.{CanTell}
use Rattle.pt_desk.specs.Own.{HandlesOwn, IsClear}
use Rattle.pt_desk.proofs.Posted.{of_parts}
use Rattle.pt_desk.proofs.Seating.{IsWhole, sight_of}
use Rattle.pt_desk.proofs.Owning.{own_tells, own_done, own_held}
use Rattle.pt_desk.proofs.desk.Desk.handle_own.Goals as goal

pub tell_ended-requires : goal.tell_ended-requires
tell_ended-requires c =
    let i = c.self.inside in
    subst (λ directory. IfSome c.in-Ok.ended (CanTell directory i.seat c.handle_in_place.new.self.clock)) (sym c.deref.ensures)
    (own_tells i.shard i.outs i.ins (arc_value i.directory) i.seat i.before c.self.invariant (subst IsClear (sym c.self.view_is) c.requires.clear) c.number-own.result c.number-own.ensures
    c.oldest-letter.result c.oldest-letter.ensures c.pass_out.new.self c.pass_out.ensures.rest c.pass_out.ensures.fit c.go_by.new.outs c.go_by.new.self c.look_from.new.self c.go_by.ensures c.look_from.ensures
    c.in-Ok.ended c.handle_in_place.new.self c.in-Ok.ensures.does)

-- the letter was handled
done : (c : goal.After-tell_ended) → IsWhole c.handle_in_place.new.self c.go_by.new.outs c.look_from.new.self (sight_of (arc_value c.self.inside.directory) c.tell_ended.new.seat c.self.inside.before) c.tell_ended.new.seat
    × HandlesOwn (of_parts c.self.inside.shard c.self.inside.outs c.self.inside.ins (sight_of (arc_value c.self.inside.directory) c.self.inside.seat c.self.inside.before)) (Ok tt)
    (of_parts c.handle_in_place.new.self c.go_by.new.outs c.look_from.new.self (sight_of (arc_value c.self.inside.directory) c.tell_ended.new.seat c.self.inside.before))
done c =
    let i = c.self.inside in
    own_done i.shard i.outs i.ins (arc_value i.directory) i.seat i.before c.self.invariant (subst IsClear (sym c.self.view_is) c.requires.clear) c.number-own.result c.number-own.ensures
    c.oldest-letter.result c.oldest-letter.ensures c.pass_out.new.self c.pass_out.ensures.rest c.pass_out.ensures.fit c.go_by.new.outs c.go_by.new.self c.look_from.new.self c.go_by.ensures c.look_from.ensures
    c.in-Ok.ended c.handle_in_place.new.self c.in-Ok.ensures.does c.in-Ok.ensures.fit c.tell_ended.new.seat c.tell_ended.ensures

pub invariant_of-self : goal.invariant_of-self
invariant_of-self c = (done c).0

pub returns-in-Ok : goal.returns-in-Ok
returns-in-Ok c =
    subst (λ d. HandlesOwn d (Ok tt) (of_parts c.handle_in_place.new.self c.go_by.new.outs c.look_from.new.self (sight_of (arc_value c.self.inside.directory) c.tell_ended.new.seat c.self.inside.before)))
    c.self.view_is (done c).1

-- the letter is in the hold
held : (c : goal.After-put_hold) → IsWhole c.put_hold.new.self c.go_by.new.outs c.look_from.new.self (sight_of (arc_value c.self.inside.directory) c.self.inside.seat c.self.inside.before) c.self.inside.seat
    × HandlesOwn (of_parts c.self.inside.shard c.self.inside.outs c.self.inside.ins (sight_of (arc_value c.self.inside.directory) c.self.inside.seat c.self.inside.before)) (Err c.in-Err.stop)
    (of_parts c.put_hold.new.self c.go_by.new.outs c.look_from.new.self (sight_of (arc_value c.self.inside.directory) c.self.inside.seat c.self.inside.before))
held c =
    let i = c.self.inside in
    own_held i.shard i.outs i.ins (arc_value i.directory) i.seat i.before c.self.invariant (subst IsClear (sym c.self.view_is) c.requires.clear) c.number-own.result c.number-own.ensures
    c.oldest-letter.result c.oldest-letter.ensures c.pass_out.new.self c.pass_out.ensures.rest c.pass_out.ensures.fit c.go_by.new.outs c.go_by.new.self c.look_from.new.self c.go_by.ensures c.look_from.ensures
    c.in-Err.stop c.handle_in_place.new.self c.put_hold.new.self c.in-Err.ensures.does c.put_hold.ensures.held c.put_hold.ensures.fit

pub invariant_of-self-in-Err : goal.invariant_of-self-in-Err
invariant_of-self-in-Err c = (held c).0

pub returns-in-Err : goal.returns-in-Err
returns-in-Err c =
    subst (λ d. HandlesOwn d (Err c.in-Err.stop) (of_parts c.put_hold.new.self c.go_by.new.outs c.look_from.new.self (sight_of (arc_value c.self.inside.directory) c.self.inside.seat c.self.inside.before)))
    c.self.view_is (held c).1
