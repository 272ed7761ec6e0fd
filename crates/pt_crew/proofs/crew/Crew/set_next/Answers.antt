-- `Crew::set_next`: its clauses `set`, `knows`, `room` and `timers`.
use Rattle.std.proofs.Common.{ap, sym, refl, ◌∙◌, arith}
use Rattle.std.specs.Option.{option_map}
use Rattle.pt_behaviour.specs.declared.behaviour.Next.{Next}
use Rattle.pt_crew.specs.Crews.{members, role}
use Rattle.pt_crew.proofs.Room.{unmarked_set}
use Rattle.pt_behaviour.proofs.Cases.{same_some}
use Rattle.pt_crew.proofs.Answering.{set_at, role_set, knows_set, timed_set}
use Rattle.pt_crew.proofs.crew.Crew.set_next.Goals as goal

pub returns-clause-set : goal.returns-clause-set
returns-clause-set g c =
    let v = c.pair_mut-member.result.1.now in
    let e = c.pair_mut-member.ensures in
    let at = set_at c.args.self.now c.args.p c.in-Some.place c.pair_mut-member.result.0.now v c.place_of.new.self c.in-Some.ensures.index e.value e.unique (record v { next = c.args.next }) in
    λ b n was. role_set (members c.args.self.now) _ c.args.p v _ at.0 at.1 b c.args.next
    (ap (λ (r : g.row.B.Denot × Next). r.0) (same_some (role v) (b, n) (sym (ap (option_map role) at.0) ∙ was))) refl

pub returns-clause-knows : goal.returns-clause-knows
returns-clause-knows g c =
    let v = c.pair_mut-member.result.1.now in
    let e = c.pair_mut-member.ensures in
    let at = set_at c.args.self.now c.args.p c.in-Some.place c.pair_mut-member.result.0.now v c.place_of.new.self c.in-Some.ensures.index e.value e.unique (record v { next = c.args.next }) in
    λ d all known. knows_set (members c.args.self.now) _ c.args.p v _ at.0 at.1 (all v at.0) (all v at.0) c.args.self.now.queue.items c.args.self.now.read d known

pub returns-clause-timers : goal.returns-clause-timers
returns-clause-timers g c =
    let v = c.pair_mut-member.result.1.now in
    let e = c.pair_mut-member.ensures in
    let at = set_at c.args.self.now c.args.p c.in-Some.place c.pair_mut-member.result.0.now v c.place_of.new.self c.in-Some.ensures.index e.value e.unique (record v { next = c.args.next }) in
    λ all timed. timed_set (members c.args.self.now) _ c.args.p v _ at.0 at.1 (all v at.0) (all v at.0) c.args.self.now.timers refl timed

pub returns-clause-room : goal.returns-clause-room
returns-clause-room g c =
    let v = c.pair_mut-member.result.1.now in
    let s = unmarked_set c.args.self.now.members.entries c.in-Some.place c.pair_mut-member.result.0.now v (record v { next = c.args.next }) c.pair_mut-member.ensures.value in
    λ room. omega (arith, s, room)
