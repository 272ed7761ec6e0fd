-- `Crew::take_in`: its clauses `knows`, `room` and `timers`.
use Rattle.std.proofs.Common.{◌≡◌, true, false, Some, None, Option, ap, subst, sym, refl, ◌∙◌, arith}
use Rattle.pt_signal.specs.Values.{same_pid}
use Rattle.pt_desk.proofs.Turning.{extends}
use Rattle.pt_crew.specs.declared.crew.Member.{Member}
use Rattle.pt_crew.specs.Crews.{members, unmarked}
use Rattle.pt_timers.specs.declared.Timer.{Timer}
use Rattle.pt_crew.specs.Waking.{timer_of}
use Rattle.pt_crew.specs.Parts.{Stops, is_marked}
use Rattle.pt_behaviour.proofs.Cases.{same_some}
use Rattle.pt_crew.proofs.Waking.{changed, replaced, woken_queue}
use Rattle.pt_crew.proofs.Timing.{stopped_timers}
use Rattle.pt_crew.proofs.Room.{unmarked_insert, unmarked_all}
use Rattle.pt_crew.proofs.crew.Crew.take_in.Goals as goal

pub returns-then-not-stands-clause-knows : goal.returns-then-not-stands-clause-knows
returns-then-not-stands-clause-knows g c =
    let p = c.args.newborn.pid in
    let old = c.args.self.now in
    let w : Member g.row.B.Denot = record { behaviour = c.args.newborn.behaviour; next = c.args.newborn.next; queued = true; clear = false; timer = None } in
    let at = c.in-Ok.ensures.updates.0 in
    let off : is_marked (members old p) ≡ false = sym c.stands-stands.ensures ∙ c.if-not-stands.true in
    λ d born k. changed (members old) _ p (Some w) old.queue.items c.push_back_reserved.new.self.items old.read d d (extends d) at
    (woken_queue (members old) _ p w old.queue.items c.push_back_reserved.new.self.items (λ m is. sym (ap is_marked is) ∙ off) at refl c.push_back_reserved.ensures.items)
    (λ m is. born)
    (λ m is work. ap (λ (x : _). x.queued) (sym (same_some w m is)))
    k

pub returns-else-not-stands-clause-knows : goal.returns-else-not-stands-clause-knows
returns-else-not-stands-clause-knows g c =
    let p = c.args.newborn.pid in
    let old = c.args.self.now in
    let w : Member g.row.B.Denot = record { behaviour = c.args.newborn.behaviour; next = c.args.newborn.next; queued = true; clear = false; timer = None } in
    let at = c.in-Ok.ensures.updates.0 in
    let on : is_marked (members old p) ≡ true = sym c.stands-stands.ensures ∙ c.if-not-stands.false in
    λ d born k. changed (members old) _ p (Some w) old.queue.items old.queue.items old.read d d (extends d) at
    (replaced (members old) _ p w old.queue.items on at refl)
    (λ m is. born)
    (λ m is work. ap (λ (x : _). x.queued) (sym (same_some w m is)))
    k

pub returns-then-not-stands-clause-room : goal.returns-then-not-stands-clause-room
returns-then-not-stands-clause-room g c =
    let p = c.args.newborn.pid in
    let old = c.args.self.now in
    let w : Member g.row.B.Denot = record { behaviour = c.args.newborn.behaviour; next = c.args.newborn.next; queued = true; clear = false; timer = None } in
    let e = ap unmarked c.in-Ok.ensures.entries in
    let i = unmarked_insert same_pid old.members.entries p w refl in
    let a = unmarked_all old.members.entries in
    let fits = c.requires.1 in
    let l = c.push_back_reserved.ensures.len in
    let z = c.push_back_reserved.ensures.capacity in
    λ room. omega (arith, e, i, a, fits, l, z, room)

pub returns-else-not-stands-clause-room : goal.returns-else-not-stands-clause-room
returns-else-not-stands-clause-room g c =
    let p = c.args.newborn.pid in
    let old = c.args.self.now in
    let w : Member g.row.B.Denot = record { behaviour = c.args.newborn.behaviour; next = c.args.newborn.next; queued = true; clear = false; timer = None } in
    let e = ap unmarked c.in-Ok.ensures.entries in
    let i = unmarked_insert same_pid old.members.entries p w refl in
    λ room. omega (arith, e, i, room)

pub returns-then-not-stands-clause-timers : goal.returns-then-not-stands-clause-timers
returns-then-not-stands-clause-timers g c =
    let p = c.args.newborn.pid in
    let old = c.args.self.now in
    let w : Member g.row.B.Denot = record { behaviour = c.args.newborn.behaviour; next = c.args.newborn.next; queued = true; clear = false; timer = None } in
    let stops = subst (λ (o : Option Timer). Stops o old.timers c.stop_timer.new.timers) (c.last_timer.ensures ∙ ap timer_of c.in-Ok.ensures.old) c.stop_timer.ensures in
    stopped_timers (members old) _ p w old.timers c.stop_timer.new.timers c.in-Ok.ensures.updates.0 stops refl refl

pub returns-else-not-stands-clause-timers : goal.returns-else-not-stands-clause-timers
returns-else-not-stands-clause-timers g c =
    let p = c.args.newborn.pid in
    let old = c.args.self.now in
    let w : Member g.row.B.Denot = record { behaviour = c.args.newborn.behaviour; next = c.args.newborn.next; queued = true; clear = false; timer = None } in
    let stops = subst (λ (o : Option Timer). Stops o old.timers c.stop_timer.new.timers) (c.last_timer.ensures ∙ ap timer_of c.in-Ok.ensures.old) c.stop_timer.ensures in
    stopped_timers (members old) _ p w old.timers c.stop_timer.new.timers c.in-Ok.ensures.updates.0 stops refl refl
