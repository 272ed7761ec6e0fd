-- `Desk::look`: its clauses `looks` and `goes_on`, and the invariant of `self`.
use Rattle.std.proofs.Common.{◌≡◌, ◌+◌, max, true, Some, None, Ok, refl, sym, subst, arith}
use Rattle.std.specs.Arc.{arc_value}
use Rattle.pt_events.specs.declared.event.Event.TheVariants.{Refused}
use Rattle.pt_directory.specs.Views.{new_read}
use Rattle.pt_directory.specs.Seats.{SeatState}
use Rattle.pt_shard.specs.Known.{knows}
use Rattle.pt_desk.specs.Sight.{IsSeen}
use Rattle.pt_desk.specs.DeskState.{DeskState, GoesOn}
use Rattle.pt_desk.specs.Reaching.{LooksFirst}
use Rattle.pt_desk.proofs.Posted.{of_parts}
use Rattle.pt_desk.proofs.Turning.{extends}
use Rattle.pt_desk.proofs.Seating.{sight_of, seen_now}
use Rattle.pt_desk.proofs.Looking.{known_near, words, looked, read_whole, refused_whole, sees_more}
use Rattle.pt_desk.proofs.desk.Desk.look.Goals as goal

-- nobody was seen to have ended: one more read
known : (c : goal.In-None) → knows c.self.inside.shard c.args.t ≡ true
known c = subst (λ (d : DeskState). knows d.shard c.args.t ≡ true) (sym c.self.view_is) c.requires.known

pub invariant_of-self-in-None : goal.invariant_of-self-in-None
invariant_of-self-in-None c =
    let i = c.self.inside in
    let read = c.in-None.ensures.read in
    read_whole i.shard i.outs i.ins (arc_value i.directory) i.seat i.before c.self.invariant c.probe.new.seat (new_read c.args.t.shard c.args.t.slot read.0 None)
    (known_near i.shard c.args.t (known c)) read.1

pub returns-in-None-clause-looks : goal.returns-in-None-clause-looks
returns-in-None-clause-looks c =
    let i = c.self.inside in
    let told = c.in-None.ensures in
    subst (λ d. LooksFirst c.args.p c.args.t ((true ≡ true) × (i.shard ≡ d.shard)) d (Ok tt) (of_parts i.shard i.outs i.ins (sight_of (arc_value i.directory) c.probe.new.seat i.before))) c.self.view_is
    (record {
      seen = None;
      looks = looked i.shard i.outs i.ins (arc_value i.directory) i.seat i.before c.self.invariant c.args.t (known c) c.probe.new.seat None told.read told.again told.own;
      does = (refl, refl);
    })

pub returns-in-None-clause-goes_on : goal.returns-in-None-clause-goes_on
returns-in-None-clause-goes_on c =
    let i = c.self.inside in
    let read = c.in-None.ensures.read in
    subst (λ d. GoesOn d (of_parts i.shard i.outs i.ins (sight_of (arc_value i.directory) c.probe.new.seat i.before))) c.self.view_is
    (record { shard = extends i.shard; place = refl; sight = sees_more (arc_value i.directory) i.before i.seat c.probe.new.seat (new_read c.args.t.shard c.args.t.slot read.0 None) read.1 })

-- the end was seen: one more read, and a note
pub invariant_of-self : goal.invariant_of-self
invariant_of-self c =
    let i = c.self.inside in
    let read = c.in-Some.ensures.read in
    let known : knows i.shard c.args.t ≡ true = subst (λ (d : DeskState). knows d.shard c.args.t ≡ true) (sym c.self.view_is) c.requires.known in
    let x = new_read c.args.t.shard c.args.t.slot read.0 (Some c.in-Some.seen) in
    let n = max i.shard.clock c.in-Some.seen + 1 in
    let v = sight_of (arc_value i.directory) c.probe.new.seat i.before in
    refused_whole i.shard c.refuse.new.self i.outs i.ins v c.probe.new.seat c.args.p c.args.t c.in-Some.seen c.refuse.result c.refuse.ensures.does c.refuse.ensures.fit
    (subst (λ (z : SeatState). IsSeen z.reads n (Refused c.args.p c.args.t)) (sym read.1)
    (seen_now i.seat.reads c.args.p c.args.t read.0 c.in-Some.seen n (words i.shard i.outs i.ins (arc_value i.directory) i.seat i.before c.self.invariant c.args.t known).1 read.2 (omega arith)))
    (read_whole i.shard i.outs i.ins (arc_value i.directory) i.seat i.before c.self.invariant c.probe.new.seat x (known_near i.shard c.args.t known) read.1)

pub returns-in-Some-clause-goes_on : goal.returns-in-Some-clause-goes_on
returns-in-Some-clause-goes_on c =
    let i = c.self.inside in
    let read = c.in-Some.ensures.read in
    subst (λ d. GoesOn d (of_parts c.refuse.new.self i.outs i.ins (sight_of (arc_value i.directory) c.probe.new.seat i.before))) c.self.view_is
    (record { shard = c.refuse.ensures.extends; place = refl; sight = sees_more (arc_value i.directory) i.before i.seat c.probe.new.seat (new_read c.args.t.shard c.args.t.slot read.0 (Some c.in-Some.seen)) read.1 })
