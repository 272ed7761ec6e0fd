-- `Desk::handle`: its clauses `empty`, `here` and `near`, and the invariant of `self`, and what its calls of `hold_front` and `tell_ended` ask.
use Rattle.std.proofs.Common.{◌≡◌, ◌<◌, Some, Ok, Err, refl, sym, ap, ◌∙◌, subst, arith}
use Rattle.std.specs.Arc.{arc_value}
use Rattle.std.specs.Prelude.{IfSome}
use Rattle.pt_carrier.specs.Ends.{Place, Collects}
use Rattle.pt_carrier.proofs.Collecting.{collects, is_first}
use Rattle.pt_shard.specs.ShardState.{ShardState, Handles}
use Rattle.pt_desk.specs.Turns.{HandlesNext, Stays}
use Rattle.pt_desk.proofs.Turning.{is_free, front_handled, front_refused, next_collected, collected_accounted, refused_accounted, stays_collected}
use Rattle.pt_desk.proofs.Posted.{of_parts}
use Rattle.pt_shard.specs.Outbox.{holding}
use Rattle.pt_desk.specs.InPlace.{CanTell, seat_told}
use Rattle.pt_desk.proofs.Seating.{sight_of, same_journal, same_whole}
use Rattle.pt_desk.proofs.Telling.{may_tell_ended, handled_whole, told_sight}
use Rattle.pt_desk.proofs.desk.Desk.handle.Goals as goal

-- the letter is refused: the shard is what it was
same_shard : (c : goal.After-hold_front-arg-in-Err-1) → c.handle_front.new.shard ≡ c.self.inside.shard
same_shard c = front_refused c.in-Some.from c.next_from.new.self c.self.inside.shard c.handle_front.new.shard c.in-Err.stop c.in-Err.ensures.does

pub hold_front-requires-clause-empty : goal.hold_front-requires-clause-empty
hold_front-requires-clause-empty c = ap (λ (s : ShardState). s.hold) (same_shard c) ∙ is_free c.self.inside.shard.hold (sym c.if-holds.ensures)

pub hold_front-requires-clause-here : goal.hold_front-requires-clause-here
hold_front-requires-clause-here c =
    ap (λ (p : Place). p.number) c.in-Some.ensures.same.0 ∙ c.self.invariant.0.accounts.in_number ∙ ap (λ (s : ShardState). s.number) (sym (same_shard c))

pub hold_front-requires-clause-near : goal.hold_front-requires-clause-near
hold_front-requires-clause-near c =
    subst (λ (s : ShardState). c.in-Some.from < s.config.desks) (sym (same_shard c)) (omega (arith, c.in-Some.ensures.some.0.0, c.self.invariant.0.accounts.in_desks))

-- the letter is handled, and goes from its lane
taken : (c : goal.After-tell_ended) → Collects c.self.inside.ins c.pass.new.self c.in-Some.from c.pass.ensures.collects.0
taken c =
    let found = c.in-Some.ensures in
    let passes = c.pass.ensures in
    collects c.self.inside.ins c.next_from.new.self c.pass.new.self c.in-Some.from c.pass.ensures.collects.0 found.same.0 found.same.2 found.some.0 passes.collects.1 passes.others

done : (c : goal.After-tell_ended) → Handles c.pass.ensures.collects.0 c.self.inside.shard (Ok c.in-Ok.ended) c.handle_front.new.shard
done c =
    front_handled c.in-Some.from c.next_from.new.self c.pass.new.self c.pass.ensures.collects.0 c.self.inside.shard c.handle_front.new.shard (Ok c.in-Ok.ended)
    c.in-Ok.ensures.does c.pass.ensures.collects.1

pub tell_ended-requires : goal.tell_ended-requires
tell_ended-requires c =
    let i = c.self.inside in
    let found = c.in-Some.ensures in
    let passes = c.pass.ensures in
    let l = passes.collects.0 in
    let takes = collects i.ins c.next_from.new.self c.pass.new.self c.in-Some.from l found.same.0 found.same.2 found.some.0 passes.collects.1 passes.others in
    let does = front_handled c.in-Some.from c.next_from.new.self c.pass.new.self l i.shard c.handle_front.new.shard (Ok c.in-Ok.ended) c.in-Ok.ensures.does passes.collects.1 in
    let now = ap (λ (z : ShardState). z.clock) does.1 in
    subst (λ directory. IfSome c.in-Ok.ended (CanTell directory i.seat c.handle_front.new.shard.clock)) (sym c.deref.ensures)
    (may_tell_ended i.shard i.outs i.ins (arc_value i.directory) i.seat i.before c.self.invariant l (takes.to_here ∙ c.self.invariant.0.accounts.in_number) c.handle_front.new.shard.clock (omega (arith, now)) c.in-Ok.ended does.2)

pub invariant_of-self-in-Ok : goal.invariant_of-self-in-Ok
invariant_of-self-in-Ok c =
    let i = c.self.inside in
    let is = (done c).1 in
    handled_whole i.shard i.outs i.ins (arc_value i.directory) i.seat i.before c.self.invariant c.pass.ensures.collects.0 c.handle_front.new.shard i.outs c.pass.new.self c.in-Ok.ended c.tell_ended.new.seat
    (same_journal _ _ _ refl refl refl refl is)
    (done c).2 (c.tell_ended.ensures ∙ ap (λ m. seat_told c.in-Ok.ended m i.seat) (ap (λ (z : ShardState). z.clock) is))
    c.in-Ok.ensures.fit
    (collected_accounted i.shard i.outs i.ins c.pass.new.self (sight_of (arc_value i.directory) i.seat i.before) c.in-Some.from c.pass.ensures.collects.0 (is_free i.shard.hold (sym c.if-holds.ensures)) (taken c)
    (c.pass.ensures.place ∙ c.in-Some.ensures.same.0) c.handle_front.new.shard c.self.invariant.0.fit.boxes c.self.invariant.0.accounts is)

pub returns-in-Ok : goal.returns-in-Ok
returns-in-Ok c =
    let i = c.self.inside in
    let found = c.in-Some.ensures in
    let passes = c.pass.ensures in
    let first = is_first i.ins c.next_from.new.self c.pass.new.self c.in-Some.from c.pass.ensures.collects.0 found.same.0 found.same.2 found.some.0 passes.collects.1 passes.others found.some.1 in (
      c.pass.ensures.collects.0,
      subst (λ v. HandlesNext c.pass.ensures.collects.0 c.args.self.now (of_parts c.handle_front.new.shard i.outs c.pass.new.self v))
          (sym (told_sight (arc_value i.directory) i.before c.in-Ok.ended c.handle_front.new.shard.clock i.seat c.tell_ended.new.seat c.tell_ended.ensures))
          (subst (λ d. HandlesNext c.pass.ensures.collects.0 d (of_parts c.handle_front.new.shard i.outs c.pass.new.self (sight_of (arc_value i.directory) i.seat i.before))) c.self.view_is
          (next_collected i.shard i.outs i.ins c.pass.new.self (sight_of (arc_value i.directory) i.seat i.before) c.in-Some.from c.pass.ensures.collects.0 (is_free i.shard.hold (sym c.if-holds.ensures)) (taken c)
          (passes.place ∙ found.same.0) first c.handle_front.new.shard (done c).0 (done c).1)),
    )

-- the letter is refused, and taken out of its lane into the hold
held : (c : goal.After-hold_front) → Collects c.self.inside.ins c.hold_front.new.ins c.in-Some.from c.hold_front.ensures.holds.letter
held c =
    let found = c.in-Some.ensures in
    let takes = c.hold_front.ensures.holds in
    collects c.self.inside.ins c.next_from.new.self c.hold_front.new.ins c.in-Some.from takes.letter found.same.0 found.same.2 found.some.0 takes.collects takes.others

stopped : (c : goal.After-hold_front) → Handles c.hold_front.ensures.holds.letter c.self.inside.shard (Err c.in-Err.stop) c.handle_front.new.shard
stopped c =
    let takes = c.hold_front.ensures.holds in
    front_handled c.in-Some.from c.next_from.new.self c.hold_front.new.ins takes.letter c.self.inside.shard c.handle_front.new.shard (Err c.in-Err.stop)
    c.in-Err.ensures.does takes.collects

pub invariant_of-self-in-Err : goal.invariant_of-self-in-Err
invariant_of-self-in-Err c =
    let i = c.self.inside in
    let takes = c.hold_front.ensures.holds in
    let is = takes.held ∙ ap (holding (Some takes.letter)) (front_refused c.in-Some.from c.next_from.new.self i.shard c.handle_front.new.shard c.in-Err.stop c.in-Err.ensures.does) in
    same_whole i.shard c.hold_front.new.shard i.outs i.outs i.ins c.hold_front.new.ins (sight_of (arc_value i.directory) i.seat i.before) i.seat
    (same_journal _ _ _ refl refl refl refl is)
    c.hold_front.ensures.fit
    (refused_accounted i.shard i.outs i.ins c.hold_front.new.ins (sight_of (arc_value i.directory) i.seat i.before) c.in-Some.from takes.letter (is_free i.shard.hold (sym c.if-holds.ensures)) (held c)
    (takes.place ∙ c.in-Some.ensures.same.0) c.handle_front.new.shard c.hold_front.new.shard c.in-Err.stop c.self.invariant.0.accounts (stopped c) takes.held)
    c.self.invariant

pub returns-in-Err : goal.returns-in-Err
returns-in-Err c =
    let i = c.self.inside in
    let found = c.in-Some.ensures in
    let takes = c.hold_front.ensures.holds in
    let first = is_first i.ins c.next_from.new.self c.hold_front.new.ins c.in-Some.from takes.letter found.same.0 found.same.2 found.some.0 takes.collects takes.others found.some.1 in
    subst (λ d. Stays c.in-Err.stop d (of_parts c.hold_front.new.shard i.outs c.hold_front.new.ins (sight_of (arc_value i.directory) i.seat i.before))) c.self.view_is
    (stays_collected i.shard i.outs i.ins c.hold_front.new.ins (sight_of (arc_value i.directory) i.seat i.before) c.in-Some.from takes.letter (is_free i.shard.hold (sym c.if-holds.ensures)) (held c)
    (takes.place ∙ found.same.0) first c.handle_front.new.shard c.hold_front.new.shard c.in-Err.stop (stopped c) takes.held)
