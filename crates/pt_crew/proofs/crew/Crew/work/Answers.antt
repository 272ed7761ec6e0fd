-- `Crew::work`: its clauses `attends` and `does`.
use Rattle.pt_crew.specs.Crews.{members}
use Rattle.pt_crew.proofs.Waking.{knows_later}
use Rattle.pt_crew.proofs.crew.Crew.work.Goals as goal

pub returns-clause-attends : goal.returns-clause-attends
returns-clause-attends g c = λ a.
    let now = c.step.ensures.does.attends a in
    record {
      knows = knows_later (members c.step.new.self) c.step.new.self.queue.items c.step.new.self.read c.step.new.desk.shard c.turn.new.self.shard c.turn.ensures.goes_on.shard now.knows;
      room = now.room;
      timers = now.timers;
    }

pub returns-clause-does : goal.returns-clause-does
returns-clause-does g c = (c.step.new.desk, c.step.ensures.does, c.turn.ensures.turns)
