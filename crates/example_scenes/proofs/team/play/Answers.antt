-- `play`: its clause `live`.
use Rattle.std.proofs.Common.{List, [], sym, subst}
use Rattle.pt_crew.specs.declared.crew.Crew.{Crew}
use Rattle.example_scenes.specs.Team.{AreTeams}
use Rattle.example_scenes.specs.declared.team.Teammate.{Teammate}
use Rattle.example_scenes.proofs.team.play.Goals as goal

pub returns-clause-live : goal.returns-clause-live
returns-clause-live g c =
    c.in_ok-teams.ensures [] (subst (λ (cs : List (Crew Teammate)). AreTeams [] cs c.perform.new.node) (sym c.in_ok-crews.ensures) (c.in_ok-perform.ensures c.in_ok-node.ensures))
