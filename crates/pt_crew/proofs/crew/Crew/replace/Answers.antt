-- `Crew::replace`: its clauses `replaced` and `attends`.
use Rattle.std.proofs.Common.{Some, ap, sym, refl, ◌∙◌, arith}
use Rattle.std.specs.Option.{option_map}
use Rattle.pt_crew.specs.Crews.{members, role}
use Rattle.pt_crew.proofs.Room.{unmarked_set}
use Rattle.pt_crew.proofs.Answering.{set_at, role_set, knows_replaced, timed_replaced}
use Rattle.pt_crew.proofs.crew.Crew.replace.Goals as goal

pub returns-clause-replaced : goal.returns-clause-replaced
returns-clause-replaced g c =
    let v = c.pair_mut-member.result.1.now in
    let e = c.pair_mut-member.ensures in
    let at = set_at c.args.self.now c.args.p c.in-Some.place c.pair_mut-member.result.0.now v c.place_of.new.self c.in-Some.ensures.index e.value e.unique (record v { behaviour = c.replace.new.dest }) in (
      v.next,
      ap (option_map role) at.0 ∙ ap (λ (b : g.row.B.Denot). Some (b, v.next)) (sym c.replace.ensures.value),
      λ q. role_set (members c.args.self.now) _ c.args.p v _ at.0 at.1 c.args.behaviour v.next c.replace.ensures.after refl q,
    )

pub returns-clause-attends : goal.returns-clause-attends
returns-clause-attends g c =
    let v = c.pair_mut-member.result.1.now in
    let e = c.pair_mut-member.ensures in
    let at = set_at c.args.self.now c.args.p c.in-Some.place c.pair_mut-member.result.0.now v c.place_of.new.self c.in-Some.ensures.index e.value e.unique (record v { behaviour = c.replace.new.dest }) in
    let old = c.args.self.now in
    let s = unmarked_set old.members.entries c.in-Some.place c.pair_mut-member.result.0.now v (record v { behaviour = c.replace.new.dest }) e.value in
    λ d a. record {
      knows = knows_replaced (members old) _ c.args.p v _ at.0 at.1 refl (λ f h. h) old.queue.items old.read d a.knows;
      room = let r = a.room in omega (arith, s, r);
      timers = timed_replaced (members old) _ c.args.p v _ at.0 at.1 refl refl old.timers refl a.timers;
    }
