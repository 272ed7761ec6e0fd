-- `Crew::serve_first`: its clauses `knows`, `room`, `serves`, `timers` and `told`.
use Rattle.std.proofs.Common.{Option, None, refl, sym, subst, ◌∙◌, arith}
use Rattle.pt_behaviour.specs.declared.behaviour.Next.{Next}
use Rattle.pt_behaviour.specs.Births.{bore, born}
use Rattle.pt_crew.specs.Crews.{members, queue, roles}
use Rattle.pt_crew.specs.Outside.{next_in_front, tells_or}
use Rattle.pt_crew.specs.Parts.{kept_as}
use Rattle.pt_behaviour.specs.Behaving.{Answers}
use Rattle.pt_crew.specs.Visiting.{SeesTo}
use Rattle.pt_crew.proofs.Waking.{first_passed, first_turned, no_place}
use Rattle.pt_crew.proofs.Visiting.{passes_first, refused_first, is_there}
use Rattle.pt_crew.proofs.Serving.{Came, begins_it, front_next, serves_it, slept_clear, knows_it, timers_for_it, room_for_it}
use Rattle.pt_crew.proofs.crew.Crew.serve_first.Goals as goal

pub returns-in_default-place_of-clause-knows : goal.returns-in_default-place_of-clause-knows
returns-in_default-place_of-clause-knows g c = first_passed (members c.args.self.now) c.in-Some.ensures.items c.in_default-place_of.is c.place_of.ensures.found

pub returns-in_default-place_of-clause-serves : goal.returns-in_default-place_of-clause-serves
returns-in_default-place_of-clause-serves g c =
    passes_first (tells_or g.B.Behaviour.answers g.B.Outside.tells (next_in_front (queue c.args.self.now) (roles c.args.self.now)) None) c.args.self.now.queue.items c.pop_front.new.self.items c.args.self.now _ c.in-Some.p c.args.desk.now.shard c.in-Some.ensures.items refl
    (no_place c.place_of.result (members c.args.self.now c.in-Some.p) c.in_default-place_of.is c.place_of.ensures.found) (record { members = λ q. refl; waiting = refl; left = refl; refused = refl; time = refl })

pub returns-then-is_err-clause-knows : goal.returns-then-is_err-clause-knows
returns-then-is_err-clause-knows g c = first_turned (members c.args.self.now) c.in-Some.ensures.items c.push_back_reserved.ensures.items

pub returns-then-is_err-clause-serves : goal.returns-then-is_err-clause-serves
returns-then-is_err-clause-serves g c =
    refused_first (tells_or g.B.Behaviour.answers g.B.Outside.tells (next_in_front (queue c.args.self.now) (roles c.args.self.now)) None) c.args.self.now.queue.items c.pop_front.new.self.items c.args.self.now _ c.in-Some.p c.args.desk.now.shard c.in-Some.ensures.items c.push_back_reserved.ensures.items (λ q. refl) refl
    c.reserve.ensures.items refl refl (is_there c.place_of.result (members c.args.self.now c.in-Some.p) c.in-Some-place_of.place c.in-Some-place_of.is c.place_of.ensures.found)

pub returns-then-is_err-clause-room : goal.returns-then-is_err-clause-room
returns-then-is_err-clause-room g c = λ room. omega (arith, c.in-Some.ensures.len, c.in-Some.ensures.capacity, c.push_back_reserved.ensures.len, c.push_back_reserved.ensures.capacity, room)

pub returns-clause-serves : goal.returns-clause-serves
returns-clause-serves g c =
    let came : Came c.in-Some.p c.serve-came.result.0 c.sleep-tended.result c.args.self.now _ c.put.new.self c.pair_mut-member.result.1.now c.serve-came.new.member c.sleep-tended.new.member _ =
    record { place = c.in-Some-place_of.place; key = c.pair_mut-member.result.0.now; index = c.in-Some-place_of.ensures.index; value = c.pair_mut-member.ensures.value; unique = c.pair_mut-member.ensures.unique; wrote = refl; same = refl; timer = refl; marked = c.goes_behind-member.ensures; slept = c.sleep-tended.ensures; its = c.serve-came.ensures.timer; done = c.serve-came.ensures.done; gone = c.serve-came.ensures.role; left = c.reserve.ensures.items; refused = refl; read = refl; time = refl; puts = c.put.ensures } in
    let old = c.args.self.now in
    let tells : Option Next → Answers g.row.B.Denot = λ front. tells_or g.B.Behaviour.answers g.B.Outside.tells front c.serve-came.result.1 in
    let front = next_in_front (queue old) (roles old) in
    let front_is = front_next _ _ _ _ _ _ _ _ _ _ came (queue old) c.pop_front.new.self.items c.in-Some.ensures.items in
    serves_it _ _ _ _ _ _ _ _ _ _ came (tells front) c.args.self.now.queue.items c.pop_front.new.self.items c.args.desk.now.shard c.serve-came.new.desk.shard c.in-Some.ensures.items refl
    (subst (λ (o : Option Next). SeesTo (tells o) old.time c.in-Some.p c.pair_mut-member.result.1.now.behaviour c.pair_mut-member.result.1.now.next c.args.desk.now.shard c.serve-came.result.0 (kept_as c.serve-came.result.0 c.serve-came.new.member) c.serve-came.new.desk.shard (bore (born old.births) (born c.serve-came.new.births))) (sym front_is) c.serve-came.ensures.sees)
    c.serve-came.ensures.bears

pub returns-clause-knows : goal.returns-clause-knows
returns-clause-knows g c =
    let came : Came c.in-Some.p c.serve-came.result.0 c.sleep-tended.result c.args.self.now _ c.put.new.self c.pair_mut-member.result.1.now c.serve-came.new.member c.sleep-tended.new.member _ =
    record { place = c.in-Some-place_of.place; key = c.pair_mut-member.result.0.now; index = c.in-Some-place_of.ensures.index; value = c.pair_mut-member.ensures.value; unique = c.pair_mut-member.ensures.unique; wrote = refl; same = refl; timer = refl; marked = c.goes_behind-member.ensures; slept = c.sleep-tended.ensures; its = c.serve-came.ensures.timer; done = c.serve-came.ensures.done; gone = c.serve-came.ensures.role; left = c.reserve.ensures.items; refused = refl; read = refl; time = refl; puts = c.put.ensures } in
    knows_it _ _ _ _ _ _ _ _ _ _ came c.pop_front.new.self.items c.args.desk.now.shard c.serve-came.new.desk.shard c.serve-came.ensures.goes_on.shard c.in-Some.ensures.items refl c.serve-came.ensures.tends (λ on. c.serve-came.ensures.clear (sym (slept_clear c.in-Some.p c.serve-came.result.0 c.serve-came.new.member c.args.self.now.timers c.sleep-tended.result c.sleep-tended.new.member c.sleep-tended.new.timers c.sleep-tended.ensures) ∙ on))

pub returns-clause-room : goal.returns-clause-room
returns-clause-room g c =
    let came : Came c.in-Some.p c.serve-came.result.0 c.sleep-tended.result c.args.self.now _ c.put.new.self c.pair_mut-member.result.1.now c.serve-came.new.member c.sleep-tended.new.member _ =
    record { place = c.in-Some-place_of.place; key = c.pair_mut-member.result.0.now; index = c.in-Some-place_of.ensures.index; value = c.pair_mut-member.ensures.value; unique = c.pair_mut-member.ensures.unique; wrote = refl; same = refl; timer = refl; marked = c.goes_behind-member.ensures; slept = c.sleep-tended.ensures; its = c.serve-came.ensures.timer; done = c.serve-came.ensures.done; gone = c.serve-came.ensures.role; left = c.reserve.ensures.items; refused = refl; read = refl; time = refl; puts = c.put.ensures } in
    room_for_it _ _ _ _ _ _ _ _ _ _ came c.in-Some.ensures.len c.in-Some.ensures.capacity

pub returns-clause-timers : goal.returns-clause-timers
returns-clause-timers g c =
    let came : Came c.in-Some.p c.serve-came.result.0 c.sleep-tended.result c.args.self.now _ c.put.new.self c.pair_mut-member.result.1.now c.serve-came.new.member c.sleep-tended.new.member _ =
    record { place = c.in-Some-place_of.place; key = c.pair_mut-member.result.0.now; index = c.in-Some-place_of.ensures.index; value = c.pair_mut-member.ensures.value; unique = c.pair_mut-member.ensures.unique; wrote = refl; same = refl; timer = refl; marked = c.goes_behind-member.ensures; slept = c.sleep-tended.ensures; its = c.serve-came.ensures.timer; done = c.serve-came.ensures.done; gone = c.serve-came.ensures.role; left = c.reserve.ensures.items; refused = refl; read = refl; time = refl; puts = c.put.ensures } in
    timers_for_it _ _ _ _ _ _ _ _ _ _ came c.pop_front.new.self.items c.args.desk.now.shard c.in-Some.ensures.items

pub returns-clause-told : goal.returns-clause-told
returns-clause-told g c =
    let came : Came c.in-Some.p c.serve-came.result.0 c.sleep-tended.result c.args.self.now _ c.put.new.self c.pair_mut-member.result.1.now c.serve-came.new.member c.sleep-tended.new.member _ =
    record { place = c.in-Some-place_of.place; key = c.pair_mut-member.result.0.now; index = c.in-Some-place_of.ensures.index; value = c.pair_mut-member.ensures.value; unique = c.pair_mut-member.ensures.unique; wrote = refl; same = refl; timer = refl; marked = c.goes_behind-member.ensures; slept = c.sleep-tended.ensures; its = c.serve-came.ensures.timer; done = c.serve-came.ensures.done; gone = c.serve-came.ensures.role; left = c.reserve.ensures.items; refused = refl; read = refl; time = refl; puts = c.put.ensures } in
    begins_it _ _ _ _ _ _ _ _ _ _ came c.serve-came.result.1 c.args.self.now.queue.items c.pop_front.new.self.items c.in-Some.ensures.items c.serve-came.ensures.told
