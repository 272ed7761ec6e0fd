-- `Crew::end_step`: its clauses `ends`, `knows`, `room` and `timers`.
use Rattle.pt_crew.proofs.Visiting.{ends_step}
use Rattle.pt_crew.proofs.Reading.{awake_all}
use Rattle.pt_crew.proofs.crew.Crew.end_step.Goals as goal

pub returns-clause-ends : goal.returns-clause-ends
returns-clause-ends g c =
    let d = c.args.desk.now.shard in
    ends_step c.args.self.now c.admit.new.self c.look.new.self d c.admit.ensures.admits c.look.ensures.kept c.look.ensures.longer c.look.ensures.rest
    (λ a. awake_all c.look.new.self d (c.look.ensures.room (c.admit.ensures.room a.room)).0 (c.look.ensures.knows (c.admit.ensures.knows a.knows)))

pub returns-clause-knows : goal.returns-clause-knows
returns-clause-knows g c = λ k. c.look.ensures.knows (c.admit.ensures.knows k)

pub returns-clause-timers : goal.returns-clause-timers
returns-clause-timers g c = λ t. c.look.ensures.timers (c.admit.ensures.timers t)

pub returns-clause-room : goal.returns-clause-room
returns-clause-room g c = λ r. (c.look.ensures.room (c.admit.ensures.room r)).1
