-- `Crew::enter_child`: its clauses `does`, `knows` and `timers`.
use Rattle.std.proofs.Common.{Some, cond, ap, sym, subst, ◌++◌, ◌∷◌, [], List, ◌∙◌}
use Rattle.pt_signal.specs.declared.pid.Pid.{Pid}
use Rattle.pt_signal.specs.Values.{same_pid}
use Rattle.pt_shard.specs.Calls.{birth_link}
use Rattle.pt_crew.specs.Stepping.{QueueIsLonger}
use Rattle.pt_crew.specs.Crews.{members, queue}
use Rattle.pt_behaviour.proofs.Newborn.{newborn_is}
use Rattle.pt_crew.proofs.Timing.{none_if, timers_is}
use Rattle.pt_crew.proofs.Visiting.{rest_then, same_roles}
use Rattle.pt_crew.proofs.Waking.{knows_is, knows_later}
use Rattle.pt_crew.proofs.crew.Crew.enter_child.Goals as goal

pub returns-clause-does : goal.returns-clause-does
returns-clause-does g c =
    let old = c.args.self.now in
    let mid = c.make_room.new.self in
    let new = c.take_in.new.self in
    let same = c.make_room.ensures.same in
    let p = c.in_ok-pid.pid in
    let d = c.args.desk.now.shard in
    let newborn = newborn_is (Some c.args.parent) (birth_link c.args.linked d) p d c.spawn_child.new.self.shard c.in_ok-pid.ensures.does.1 c.journal-lawful.ensures.local in (
      c.in_ok-pid.ensures.does,
      λ q. c.take_in.ensures.does q ∙ ap (λ o. cond (same_pid p q) (Some (c.args.behaviour, c.args.next)) o) (same_roles old mid same q),
      λ k. c.take_in.ensures.queue (none_if (members mid p) (λ m is. let b = k.born p m (sym (same.members p) ∙ is) in let u = newborn.0 in cc)) ∙ ap (λ (ps : List Pid). ps ++ p ∷ []) same.queue,
      subst (λ (ps : List Pid). QueueIsLonger ps (queue new)) same.queue c.take_in.ensures.longer,
      rest_then old mid new same.rest c.take_in.ensures.rest,
    )

pub returns-clause-knows : goal.returns-clause-knows
returns-clause-knows g c =
    let old = c.args.self.now in
    let mid = c.make_room.new.self in
    let p = c.in_ok-pid.pid in
    let d = c.args.desk.now.shard in
    let e = c.spawn_child.new.self.shard in
    let newborn = newborn_is (Some c.args.parent) (birth_link c.args.linked d) p d e c.in_ok-pid.ensures.does.1 c.journal-lawful.ensures.local in
    λ k. c.take_in.ensures.knows e newborn.1 (knows_later (members mid) (queue mid) mid.read d e c.spawn_child.ensures.goes_on.shard (knows_is old mid d c.make_room.ensures.same k))

pub returns-clause-timers : goal.returns-clause-timers
returns-clause-timers g c = λ t. c.take_in.ensures.timers (timers_is c.args.self.now c.make_room.new.self c.make_room.ensures.same t)

pub returns-in_err-pid-clause-knows : goal.returns-in_err-pid-clause-knows
returns-in_err-pid-clause-knows g c =
    let old = c.args.self.now in
    let mid = c.make_room.new.self in
    λ k. knows_later (members mid) (queue mid) mid.read c.args.desk.now.shard c.spawn_child.new.self.shard c.spawn_child.ensures.goes_on.shard (knows_is old mid c.args.desk.now.shard c.make_room.ensures.same k)

pub returns-in_err-pid-clause-timers : goal.returns-in_err-pid-clause-timers
returns-in_err-pid-clause-timers g c = λ t. timers_is c.args.self.now c.make_room.new.self c.make_room.ensures.same t

pub returns-in_err-make_room-clause-knows : goal.returns-in_err-make_room-clause-knows
returns-in_err-make_room-clause-knows g c = λ k. knows_is c.args.self.now c.make_room.new.self c.args.desk.now.shard c.make_room.ensures.same k

pub returns-in_err-make_room-clause-timers : goal.returns-in_err-make_room-clause-timers
returns-in_err-make_room-clause-timers g c = λ t. timers_is c.args.self.now c.make_room.new.self c.make_room.ensures.same t
