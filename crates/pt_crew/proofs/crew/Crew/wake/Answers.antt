-- `Crew::wake`: its clauses `wakes`, `room`, `refused` and `keys`.
use Rattle.std.proofs.Common.{◌≡◌, List, [], ◌∷◌, ◌++◌, Bool, true, cond, None, ap, sym, refl, ◌∙◌, append-nil, arith}
use Rattle.pt_signal.specs.declared.pid.Pid.{Pid}
use Rattle.pt_behaviour.proofs.Cases.{same_some, some_none}
use Rattle.pt_crew.proofs.Waking.{woken, same_back, same_queue, no_place, woken_queue}
use Rattle.pt_crew.proofs.Reading.{absent_wakes}
use Rattle.pt_crew.proofs.Timing.{queued_bare, stopped_fewer, stopped_timers, stops_held, timed_same}
use Rattle.pt_crew.proofs.Room.{unmarked_set, bare, on_err}
use Rattle.pt_crew.specs.Crews.{members}
use Rattle.pt_crew.proofs.Answering.{set_at}
use Rattle.pt_crew.proofs.Beginning.{keys_set}
use Rattle.pt_crew.proofs.crew.Crew.wake.Goals as goal

pub returns-then-member-clause-wakes : goal.returns-then-member-clause-wakes
returns-then-member-clause-wakes g c =
    let v = c.pair_mut-member.result.1.now in
    let e = c.pair_mut-member.ensures in
    let at = set_at c.args.self.now c.args.p c.in-Some.place c.pair_mut-member.result.0.now v c.place_of.new.self c.in-Some.ensures.index e.value e.unique v in
    woken c.args.p c.args.self.now _ v v at.0 at.1 c.if-member.true refl refl
    (λ k. same_queue (members c.args.self.now) _ c.args.self.now.queue.items _ (λ q. at.1 q ∙ same_back (members c.args.self.now) c.args.p v at.0 q) refl k)
    ([], sym (append-nil c.args.self.now.queue.items))
    (λ k. timed_same (members c.args.self.now) _ c.args.self.now.timers _ (λ q. at.1 q ∙ same_back (members c.args.self.now) c.args.p v at.0 q) refl k)
    (λ k t is. some_none _ t (queued_bare (members c.args.self.now) c.args.p v c.args.self.now.timers at.0 c.if-member.true k) is)
    refl
    (record { waiting = refl; left = refl; refused = refl; rounds = refl; time = refl })

pub returns-then-member-clause-room : goal.returns-then-member-clause-room
returns-then-member-clause-room g c =
    let v = c.pair_mut-member.result.1.now in
    let s = unmarked_set c.args.self.now.members.entries c.in-Some.place c.pair_mut-member.result.0.now v v c.pair_mut-member.ensures.value in
    λ room. (refl, omega (arith, s, room))

pub returns-in_err-reserve-clause-refused : goal.returns-in_err-reserve-clause-refused
returns-in_err-reserve-clause-refused g c =
    let v = c.pair_mut-member.result.1.now in
    let e = c.pair_mut-member.ensures in
    let at = set_at c.args.self.now c.args.p c.in-Some.place c.pair_mut-member.result.0.now v c.place_of.new.self c.in-Some.ensures.index e.value e.unique v in
    on_err _ c.from_residual.result (record {
      members = λ q. at.1 q ∙ same_back (members c.args.self.now) c.args.p v at.0 q;
      queue = c.reserve.ensures.items;
      read = refl;
      timers = refl;
      rest = record { waiting = refl; left = refl; refused = refl; rounds = refl; time = refl };
    })

pub returns-in_err-reserve-clause-room : goal.returns-in_err-reserve-clause-room
returns-in_err-reserve-clause-room g c =
    let v = c.pair_mut-member.result.1.now in
    let s = unmarked_set c.args.self.now.members.entries c.in-Some.place c.pair_mut-member.result.0.now v (record v { queued = true; timer = None }) c.pair_mut-member.ensures.value in
    let b : bare v ≡ 1 = ap (λ (x : Bool). cond x 0 1) c.if-member.false in
    let full = c.in_err-reserve.ensures.full in
    λ room. absurd (omega (arith, s, b, full, room))

pub returns-clause-room : goal.returns-clause-room
returns-clause-room g c =
    let v = c.pair_mut-member.result.1.now in
    let s = unmarked_set c.args.self.now.members.entries c.in-Some.place c.pair_mut-member.result.0.now v (record v { queued = true; timer = None }) c.pair_mut-member.ensures.value in
    let b : bare v ≡ 1 = ap (λ (x : Bool). cond x 0 1) c.if-member.false in
    let l = c.push_back_reserved.ensures.len in
    let z = c.push_back_reserved.ensures.capacity in
    let n = c.reserve.ensures.len in
    let y = c.reserve.ensures.capacity in
    λ room. (refl, omega (arith, s, b, l, z, n, y, room))

pub returns-clause-wakes : goal.returns-clause-wakes
returns-clause-wakes g c =
    let v = c.pair_mut-member.result.1.now in
    let e = c.pair_mut-member.ensures in
    let w = record v { queued = true; timer = None } in
    let at = set_at c.args.self.now c.args.p c.in-Some.place c.pair_mut-member.result.0.now v c.place_of.new.self c.in-Some.ensures.index e.value e.unique w in
    let stops = stops_held (members c.args.self.now) c.args.p v c.args.self.now.timers c.stop_timer.new.timers at.0 c.stop_timer.ensures in
    let items = c.push_back_reserved.ensures.items ∙ ap (λ (ps : List Pid). ps ++ c.args.p ∷ []) c.reserve.ensures.items in
    woken c.args.p c.args.self.now _ v w at.0 at.1 refl refl refl
    (λ k. woken_queue (members c.args.self.now) _ c.args.p w c.args.self.now.queue.items _ (λ m2 is. ap (λ (x : _). x.queued) (sym (same_some v m2 (sym at.0 ∙ is))) ∙ c.if-member.false) at.1 refl items k)
    (c.args.p ∷ [], items)
    (stopped_timers (members c.args.self.now) _ c.args.p w c.args.self.now.timers c.stop_timer.new.timers at.1 stops refl refl)
    (stopped_fewer (members c.args.self.now) c.args.p c.args.self.now.timers c.stop_timer.new.timers stops)
    refl
    (record { waiting = refl; left = refl; refused = refl; rounds = refl; time = refl })

pub returns-then-member-clause-keys : goal.returns-then-member-clause-keys
returns-then-member-clause-keys g c = keys_set c.args.self.now.members.entries c.in-Some.place c.pair_mut-member.result.1.now

pub returns-in_err-reserve-clause-keys : goal.returns-in_err-reserve-clause-keys
returns-in_err-reserve-clause-keys g c = keys_set c.args.self.now.members.entries c.in-Some.place c.pair_mut-member.result.1.now

pub returns-clause-keys : goal.returns-clause-keys
returns-clause-keys g c = keys_set c.args.self.now.members.entries c.in-Some.place (record c.pair_mut-member.result.1.now { queued = true; timer = None })

pub returns-in_default-clause-wakes : goal.returns-in_default-clause-wakes
returns-in_default-clause-wakes g c =
    absent_wakes c.args.p c.args.self.now _ (no_place c.place_of.result (members c.args.self.now c.args.p) c.in_default.is c.place_of.ensures.found)
    (record { members = λ q. refl; queue = refl; read = refl; timers = refl; rest = record { waiting = refl; left = refl; refused = refl; rounds = refl; time = refl } })
