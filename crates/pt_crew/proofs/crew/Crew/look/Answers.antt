-- `Crew::look`: its clauses `room`, `kept`, `longer`, `rest`, `knows` and `timers`, and its loop over `self`.
use Rattle.std.proofs.Common.{length, refl, reverse, ap, sym, ◌∙◌, arith}
use Rattle.std.proofs.lemmas.List.{length-reverse}
use Rattle.pt_crew.proofs.Reading.{look_next, on_ok, woke_timers}
use Rattle.pt_crew.proofs.Waking.{knows_is}
use Rattle.pt_crew.specs.Crews.{queue, roles}
use Rattle.pt_crew.proofs.Visiting.{same_then, woke_roles, same_roles, longer_then, woke_longer, same_longer, woke_rest, rest_then, rest_read}
use Rattle.pt_crew.proofs.Room.{ok_not_err, on_err_of}
use Rattle.pt_crew.proofs.Timing.{timers_is}
use Rattle.pt_crew.proofs.crew.Crew.look.Goals as goal

pub loop-self-preserved : goal.loop-self-preserved
loop-self-preserved g c = record {
  knows = λ k. look_next c.loop-self.self c.note.new.self c.args.desk.now.shard c.events-events.result.now _ c.note.result (c.events-events.ensures.events ∙ ap reverse c.journal.ensures.past) c.loop-self-test.true
      (sym c.if-is_err.ensures.value) c.note.ensures.wakes (c.loop-self.invariant.knows k);
  kept = same_then (roles c.args.self.now) (roles c.loop-self.self) _ c.loop-self.invariant.kept
      (woke_roles _ c.loop-self.self c.note.new.self (on_ok _ c.note.result (sym c.if-is_err.ensures.value) c.note.ensures.wakes));
  longer = longer_then (queue c.args.self.now) (queue c.loop-self.self) _ c.loop-self.invariant.longer
      (woke_longer _ c.loop-self.self c.note.new.self (on_ok _ c.note.result (sym c.if-is_err.ensures.value) c.note.ensures.wakes));
  rest = rest_read c.args.self.now c.loop-self.self c.note.new.self _ refl refl refl refl refl c.loop-self.invariant.rest
      (woke_rest _ c.loop-self.self c.note.new.self (on_ok _ c.note.result (sym c.if-is_err.ensures.value) c.note.ensures.wakes));
  timers = λ k. woke_timers _ c.loop-self.self c.note.new.self (on_ok _ c.note.result (sym c.if-is_err.ensures.value) c.note.ensures.wakes) (c.loop-self.invariant.timers k);
  room = λ r. (c.note.ensures.room (c.loop-self.invariant.room r)).1;
}

pub returns-then-is_err-clause-room : goal.returns-then-is_err-clause-room
returns-then-is_err-clause-room g c = λ r. absurd (ok_not_err c.note.result (c.note.ensures.room (c.loop-self.invariant.room r)).0 (sym c.is_err.ensures.value ∙ c.if-is_err.true))

pub returns-clause-room : goal.returns-clause-room
returns-clause-room g c =
    let l = ap length (c.events-events.ensures.events ∙ ap reverse c.journal.ensures.past) in
    let r = length-reverse c.args.desk.now.shard.journal in
    let t = c.loop-self-test.false in
    λ room. (omega (arith, l, r, t), c.loop-self.invariant.room room)

pub returns-then-is_err-clause-kept : goal.returns-then-is_err-clause-kept
returns-then-is_err-clause-kept g c =
    same_then (roles c.args.self.now) (roles c.loop-self.self) _ c.loop-self.invariant.kept
    (same_roles c.loop-self.self c.note.new.self (on_err_of _ c.note.result (sym c.is_err.ensures.value ∙ c.if-is_err.true) c.note.ensures.refused))

pub returns-then-is_err-clause-longer : goal.returns-then-is_err-clause-longer
returns-then-is_err-clause-longer g c =
    longer_then (queue c.args.self.now) (queue c.loop-self.self) _ c.loop-self.invariant.longer
    (same_longer c.loop-self.self c.note.new.self (on_err_of _ c.note.result (sym c.is_err.ensures.value ∙ c.if-is_err.true) c.note.ensures.refused))

pub returns-then-is_err-clause-rest : goal.returns-then-is_err-clause-rest
returns-then-is_err-clause-rest g c =
    rest_then c.args.self.now c.loop-self.self _ c.loop-self.invariant.rest
    (on_err_of _ c.note.result (sym c.is_err.ensures.value ∙ c.if-is_err.true) c.note.ensures.refused).rest

pub returns-then-is_err-clause-knows : goal.returns-then-is_err-clause-knows
returns-then-is_err-clause-knows g c =
    λ k. knows_is c.loop-self.self c.note.new.self c.args.desk.now.shard (on_err_of _ c.note.result (sym c.is_err.ensures.value ∙ c.if-is_err.true) c.note.ensures.refused)
    (c.loop-self.invariant.knows k)

pub returns-then-is_err-clause-timers : goal.returns-then-is_err-clause-timers
returns-then-is_err-clause-timers g c =
    λ k. timers_is c.loop-self.self c.note.new.self (on_err_of _ c.note.result (sym c.is_err.ensures.value ∙ c.if-is_err.true) c.note.ensures.refused) (c.loop-self.invariant.timers k)
