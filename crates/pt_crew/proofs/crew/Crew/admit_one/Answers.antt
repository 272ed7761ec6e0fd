-- `Crew::admit_one`: its clauses `admits`, `knows` and `timers`.
use Rattle.std.proofs.Common.{refl, sym, ◌∙◌}
use Rattle.pt_shard.specs.ShardState.{lives, phase_of}
use Rattle.pt_crew.proofs.Admitting.{denied, nobody_waits}
use Rattle.pt_crew.proofs.Room.{ok_not_err}
use Rattle.pt_behaviour.proofs.Upholding.{living_born}
use Rattle.pt_crew.proofs.Waking.{knows_is}
use Rattle.pt_crew.proofs.Timing.{timers_is}
use Rattle.pt_crew.proofs.crew.Crew.admit_one.Goals as goal

pub returns-then-is_err-clause-admits : goal.returns-then-is_err-clause-admits
returns-then-is_err-clause-admits g c =
    denied (lives c.args.desk.now.shard) c.args.self.now c.make_room.new.self _ c.make_room.ensures.same refl refl refl refl refl refl
    (λ room. ok_not_err c.make_room.result (c.make_room.ensures.succeeds room) (sym c.is_err.ensures.value ∙ c.if-is_err.true))

pub returns-then-is_err-clause-knows : goal.returns-then-is_err-clause-knows
returns-then-is_err-clause-knows g c = λ k. knows_is c.args.self.now c.make_room.new.self c.args.desk.now.shard c.make_room.ensures.same k

pub returns-in_default-clause-admits : goal.returns-in_default-clause-admits
returns-in_default-clause-admits g c = nobody_waits (lives c.args.desk.now.shard) c.args.self.now c.make_room.new.self _ c.make_room.ensures.same c.in_default.ensures.0 refl c.in_default.ensures.1 refl refl refl refl

pub returns-in_default-clause-knows : goal.returns-in_default-clause-knows
returns-in_default-clause-knows g c = λ k. knows_is c.args.self.now c.make_room.new.self c.args.desk.now.shard c.make_room.ensures.same k

pub returns-then-not-alive_here-clause-knows : goal.returns-then-not-alive_here-clause-knows
returns-then-not-alive_here-clause-knows g c = λ k. knows_is c.args.self.now c.make_room.new.self c.args.desk.now.shard c.make_room.ensures.same k

pub returns-clause-knows : goal.returns-clause-knows
returns-clause-knows g c =
    let d = c.args.desk.now.shard in
    λ k. c.take_in.ensures.knows d (living_born (phase_of d c.in-Some.newborn.pid) (sym c.if-not-alive_here.ensures)) (knows_is c.args.self.now c.make_room.new.self d c.make_room.ensures.same k)

pub returns-then-is_err-clause-timers : goal.returns-then-is_err-clause-timers
returns-then-is_err-clause-timers g c = λ k. timers_is c.args.self.now c.make_room.new.self c.make_room.ensures.same k

pub returns-in_default-clause-timers : goal.returns-in_default-clause-timers
returns-in_default-clause-timers g c = λ k. timers_is c.args.self.now c.make_room.new.self c.make_room.ensures.same k

pub returns-then-not-alive_here-clause-timers : goal.returns-then-not-alive_here-clause-timers
returns-then-not-alive_here-clause-timers g c = λ k. timers_is c.args.self.now c.make_room.new.self c.make_room.ensures.same k

pub returns-clause-timers : goal.returns-clause-timers
returns-clause-timers g c = λ k. c.take_in.ensures.timers (timers_is c.args.self.now c.make_room.new.self c.make_room.ensures.same k)
