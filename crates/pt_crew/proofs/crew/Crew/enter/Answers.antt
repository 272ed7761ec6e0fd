-- `Crew::enter`: its clauses `knows`, `room` and `timers`.
use Rattle.std.proofs.Common.{◌≡◌, false, true, Some, None, ap, sym, refl, ◌∙◌, arith}
use Rattle.std.specs.Map.{lookup}
use Rattle.pt_signal.specs.declared.pid.Pid.{Pid}
use Rattle.pt_signal.specs.Values.{same_pid}
use Rattle.pt_crew.specs.declared.crew.Member.{Member}
use Rattle.pt_crew.specs.Crews.{members, unmarked}
use Rattle.pt_crew.specs.Waking.{Knows, timer_of}
use Rattle.pt_behaviour.proofs.Newborn.{newborn_is}
use Rattle.pt_behaviour.proofs.Cases.{same_some}
use Rattle.pt_crew.proofs.Waking.{changed, woken_queue, knows_same, knows_later}
use Rattle.indexmap.specs.IndexMap.{insert_entry}
use Rattle.pt_crew.proofs.Room.{unmarked_insert, unmarked_all}
use Rattle.pt_crew.proofs.Timing.{none_if, stopped_timers, stops_none, timed_same}
use Rattle.pt_crew.proofs.crew.Crew.enter.Goals as goal

pub returns-in_err-pid-clause-knows : goal.returns-in_err-pid-clause-knows
returns-in_err-pid-clause-knows g c =
    λ k. knows_later _ _ c.args.self.now.read c.args.desk.now.shard c.spawn.new.self.shard c.spawn.ensures.goes_on.shard
    (knows_same (members c.args.self.now) _ c.args.self.now.queue.items _ c.args.self.now.read c.args.desk.now.shard (λ q. ap (lookup (same_pid q)) c.reserve.ensures.entries) c.reserve-2.ensures.items k)

pub returns-in-Ok-clause-knows : goal.returns-in-Ok-clause-knows
returns-in-Ok-clause-knows g c =
    let p = c.in_ok-pid.pid in
    let rest = c.reserve-2.new.self.items in
    let read = c.args.self.now.read in
    let d = c.args.desk.now.shard in
    let e = c.spawn.new.self.shard in
    let extended = c.spawn.ensures.goes_on.shard in
    let mem : Pid → _ = λ q. lookup (same_pid q) c.reserve.new.self.entries in
    let newborn = newborn_is None None p d e c.in_ok-pid.ensures.does c.journal-lawful.ensures.local in
    λ k0. let k : Knows mem rest read d = knows_same (members c.args.self.now) mem c.args.self.now.queue.items rest read d (λ q. ap (lookup (same_pid q)) c.reserve.ensures.entries) c.reserve-2.ensures.items k0 in
    changed mem _ p (Some _) rest c.push_back_reserved.new.self.items read d e extended c.in-Ok.ensures.updates.0
    (woken_queue mem _ p _ rest c.push_back_reserved.new.self.items (λ m is. absurd (let b = k.born p m is in let u = newborn.0 in cc)) c.in-Ok.ensures.updates.0 refl c.push_back_reserved.ensures.items)
    (λ m is. newborn.1)
    (λ m is work. ap (λ (x : _). x.queued) (sym (same_some _ m is)))
    k

pub returns-in-Ok-clause-room : goal.returns-in-Ok-clause-room
returns-in-Ok-clause-room g c =
    let p = c.in_ok-pid.pid in
    let v : Member g.row.B.Denot = record { behaviour = c.args.behaviour; next = c.args.first; queued = true; clear = false; timer = None } in
    let e : unmarked c.insert.new.self.entries ≡ unmarked (insert_entry same_pid c.reserve.new.self.entries p v) = ap unmarked c.in-Ok.ensures.entries in
    let i = unmarked_insert same_pid c.reserve.new.self.entries p v refl in
    let a = unmarked_all c.reserve.new.self.entries in
    let n = c.len.ensures.len in
    let s = c.in-Some.ensures.1 in
    let ok = c.in_ok-reserve-2.ensures.ok in
    let l = c.push_back_reserved.ensures.len in
    let z = c.push_back_reserved.ensures.capacity in
    λ room. omega (arith, e, i, a, n, s, ok, l, z)

pub returns-in_err-reserve-clause-knows : goal.returns-in_err-reserve-clause-knows
returns-in_err-reserve-clause-knows g c =
    λ k. knows_same (members c.args.self.now) _ c.args.self.now.queue.items _ c.args.self.now.read c.args.desk.now.shard (λ q. ap (lookup (same_pid q)) c.reserve.ensures.entries) refl k

pub returns-in_err-reserve-2-clause-knows : goal.returns-in_err-reserve-2-clause-knows
returns-in_err-reserve-2-clause-knows g c =
    λ k. knows_same (members c.args.self.now) _ c.args.self.now.queue.items _ c.args.self.now.read c.args.desk.now.shard (λ q. ap (lookup (same_pid q)) c.reserve.ensures.entries) c.reserve-2.ensures.items k

pub returns-in_err-grow-clause-knows : goal.returns-in_err-grow-clause-knows
returns-in_err-grow-clause-knows g c =
    λ k. knows_same (members c.args.self.now) _ c.args.self.now.queue.items _ c.args.self.now.read c.args.desk.now.shard (λ q. ap (lookup (same_pid q)) c.reserve.ensures.entries) refl k

pub returns-in_err-pid-clause-timers : goal.returns-in_err-pid-clause-timers
returns-in_err-pid-clause-timers g c = λ k t. timed_same (members c.args.self.now) _ c.args.self.now.timers _ (λ q. ap (lookup (same_pid q)) c.reserve.ensures.entries) refl t

pub returns-in_err-reserve-clause-timers : goal.returns-in_err-reserve-clause-timers
returns-in_err-reserve-clause-timers g c = λ k t. timed_same (members c.args.self.now) _ c.args.self.now.timers _ (λ q. ap (lookup (same_pid q)) c.reserve.ensures.entries) refl t

pub returns-in_err-reserve-2-clause-timers : goal.returns-in_err-reserve-2-clause-timers
returns-in_err-reserve-2-clause-timers g c = λ k t. timed_same (members c.args.self.now) _ c.args.self.now.timers _ (λ q. ap (lookup (same_pid q)) c.reserve.ensures.entries) refl t

pub returns-in_err-grow-clause-timers : goal.returns-in_err-grow-clause-timers
returns-in_err-grow-clause-timers g c = λ k t. timed_same (members c.args.self.now) _ c.args.self.now.timers _ (λ q. ap (lookup (same_pid q)) c.reserve.ensures.entries) refl t

pub returns-in-Ok-clause-timers : goal.returns-in-Ok-clause-timers
returns-in-Ok-clause-timers g c =
    let p = c.in_ok-pid.pid in
    let old = c.args.self.now in
    let mem : Pid → _ = λ q. lookup (same_pid q) c.reserve.new.self.entries in
    let newborn = newborn_is None None p c.args.desk.now.shard c.spawn.new.self.shard c.in_ok-pid.ensures.does c.journal-lawful.ensures.local in
    λ k t.
    let none : mem p ≡ None = none_if (mem p) (λ m is. let b = k.born p m (sym (ap (lookup (same_pid p)) c.reserve.ensures.entries) ∙ is) in let u = newborn.0 in cc) in
    stopped_timers mem _ p _ old.timers old.timers c.in-Ok.ensures.updates.0 (stops_none (timer_of (mem p)) old.timers old.timers (ap timer_of none) refl) refl refl
    (timed_same (members old) mem old.timers old.timers (λ q. ap (lookup (same_pid q)) c.reserve.ensures.entries) refl t)
