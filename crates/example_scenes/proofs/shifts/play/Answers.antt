-- `play`: its clauses `live` and `legal`.
use Rattle.std.proofs.Common.{List, [], reverse, sym, subst}
use Rattle.pt_events.specs.Journal.{events}
use Rattle.pt_crew.specs.declared.crew.Crew.{Crew}
use Rattle.example_scenes.specs.Team.{AreTeams}
use Rattle.example_scenes.specs.declared.team.Teammate.{Teammate}
use Rattle.example_scenes.proofs.shifts.play.Goals as goal

pub returns-clause-live : goal.returns-clause-live
returns-clause-live c =
    let teams = subst (λ (cs : List (Crew Teammate)). AreTeams [] cs c.in_ok-fresh.fresh) (sym c.in_ok-crews.ensures) c.in_ok-fresh.ensures in
    c.in_ok-teams.ensures (events (reverse c.work_on.new.book.events.items)) (c.in_ok-node.ensures.holds teams)

pub returns-clause-legal : goal.returns-clause-legal
returns-clause-legal c =
    let teams = subst (λ (cs : List (Crew Teammate)). AreTeams [] cs c.in_ok-fresh.fresh) (sym c.in_ok-crews.ensures) c.in_ok-fresh.ensures in
    c.in_ok-node.ensures.legal teams
