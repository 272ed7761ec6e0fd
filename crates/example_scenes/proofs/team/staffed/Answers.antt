-- `staffed`: its clauses `upholds` and `here`.
use Rattle.std.proofs.Common.{[]}
use Rattle.example_scenes.proofs.team.staffed.Goals as goal

pub returns-clause-upholds : goal.returns-clause-upholds
returns-clause-upholds c =
    let d = c.args.desk.now.shard in
    let crew = c.new-crew.result in
    record {
      attends = record {
        knows = c.enter.ensures.knows (c.new-crew.ensures.attends d).knows;
        room = c.enter.ensures.room (c.new-crew.ensures.attends d).room;
        timers = c.enter.ensures.timers (c.new-crew.ensures.attends d).knows (c.new-crew.ensures.attends d).timers;
      };
      upholds = c.quiet_children_live.ensures.enter [] c.in_ok-boss.boss _ crew c.enter.new.self d c.enter.new.desk.shard c.enter.result c.enter.ensures.does c.in_ok-boss.ensures.begins
          (c.quiet_children_live.ensures.nobody [] crew d c.new-crew.ensures.nobody c.new-crew.ensures.born);
    }

pub returns-clause-here : goal.returns-clause-here
returns-clause-here c =
    let stays = c.children_here_live.ensures.stays (λ time b d me item next now e births h. (h.1, h.2)) in
    stays.enter c.in_ok-boss.boss _ c.new-crew.result c.enter.new.self c.args.desk.now.shard c.enter.new.desk.shard c.enter.result c.enter.ensures.does c.in_ok-boss.ensures.here
    (stays.nobody c.new-crew.result c.new-crew.ensures.nobody c.new-crew.ensures.born)
