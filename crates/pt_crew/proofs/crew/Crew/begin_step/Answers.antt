-- `Crew::begin_step`: its clauses `begins`, `knows`, `room` and `timers`.
use Rattle.std.proofs.Common.{◌≡◌, ◌≤◌, ℕ, length, ◌∙◌, sym, subst}
use Rattle.pt_timers.specs.Calls.{NoneDue}
use Rattle.pt_crew.specs.Crews.{KnowsDesk, queue, roles, time_of}
use Rattle.pt_crew.proofs.Visiting.{same_then, longer_then}
use Rattle.pt_crew.proofs.Timing.{all_rung}
use Rattle.pt_crew.proofs.Reading.{awake_all}
use Rattle.pt_crew.proofs.crew.Crew.begin_step.Goals as goal

pub returns-clause-begins : goal.returns-clause-begins
returns-clause-begins g c =
    let old = c.args.self.now in
    let rung = c.ring.new.self in
    let d = c.args.desk.now.shard in
    let looked = c.look.ensures.rest in
    let rang = c.ring.ensures.rest in
    let knows : KnowsDesk old d → KnowsDesk rung d = λ k. c.ring.ensures.knows d (c.look.ensures.knows k) in
    let times : time_of rung ≡ time_of old = rang.time ∙ looked.time in
    record {
      left = rang.left ∙ looked.left ∙ c.clear.ensures.items;
      refused = rang.refused ∙ looked.refused;
      first = λ a. awake_all rung d (subst (λ (n : ℕ). length d.journal ≤ n) (sym c.ring.ensures.read) (c.look.ensures.room a.room).0) (knows a.knows);
      due = λ a. all_rung rung (c.ring.ensures.timers (c.look.ensures.timers a.timers)) d (time_of old) (knows a.knows)
          (subst (λ (n : ℕ). NoneDue n rung.timers) times (c.ring.ensures.rung (c.look.ensures.room a.room).1 (c.look.ensures.timers a.timers)));
      roles = same_then (roles old) (roles c.look.new.self) (roles rung) c.look.ensures.kept c.ring.ensures.kept;
      longer = longer_then (queue old) (queue c.look.new.self) (queue rung) c.look.ensures.longer c.ring.ensures.longer;
      waiting = rang.waiting ∙ looked.waiting;
      rounds = rang.rounds ∙ looked.rounds;
      time = times;
    }

pub returns-clause-knows : goal.returns-clause-knows
returns-clause-knows g c = λ k. c.ring.ensures.knows c.args.desk.now.shard (c.look.ensures.knows k)

pub returns-clause-timers : goal.returns-clause-timers
returns-clause-timers g c = λ t. c.ring.ensures.timers (c.look.ensures.timers t)

pub returns-clause-room : goal.returns-clause-room
returns-clause-room g c = λ r. c.ring.ensures.room (c.look.ensures.room r).1
