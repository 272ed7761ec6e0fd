-- `work_on`: its clauses `holds` and `legal`.
use Rattle.std.proofs.Common.{[]}
use Rattle.example_scenes.specs.Team.{boss_of}
use Rattle.example_scenes.proofs.Booking.{all_legal, teams_hold}
use Rattle.example_scenes.proofs.shifts.work_on.Goals as goal

pub returns-clause-holds : goal.returns-clause-holds
returns-clause-holds c = λ teams.
    let p = c.in-Ok.ensures.passes in
    record {
      hold = teams_hold p c.requires boss_of (c.epochs_children_live.ensures.run [] _ _ _ _ _ p teams.hold);
      here = (c.epochs_children_here_live.ensures.run (λ time b d me item next now e births h. (h.1, h.2))).passes [] _ _ _ _ _ p teams.hold teams.here;
    }

pub returns-clause-legal : goal.returns-clause-legal
returns-clause-legal c = λ teams. all_legal c.in-Ok.ensures.passes c.requires boss_of teams.hold
