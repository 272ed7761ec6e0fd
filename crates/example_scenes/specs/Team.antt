-- The teams of the scenes `team` and `shifts`.
use Rattle.std.specs.Prelude.{List}
use Rattle.std.specs.Option.{option_map}
use Rattle.pt_events.specs.History.{Past}
use Rattle.pt_desk.specs.DeskState.{DeskState}
use Rattle.pt_behaviour.specs.Behaving.{Answers}
use Rattle.pt_crew.specs.declared.crew.Crew.{Crew}
use Rattle.pt_supervisor.specs.Hearing.{standing}
use Rattle.pt_supervisor.specs.Keeping.{AnswerAs, PartOf}
use Rattle.pt_pauses.specs.Here.{AreHere, CrewsHere, IsHere}
use Rattle.pt_pauses.specs.Pauses.{AllHold}
use Rattle.example_scenes.specs.declared.team.Teammate.{Teammate}

-- what a process of a team is as a supervisor, if it is one
abbrev pub boss_of : PartOf Teammate
boss_of b = option_map standing b.boss

-- a supervisor sees to its item, and a worker acts for itself alone; who spawned all its children does so still, and so does
-- each one that was born
abbrev pub team_answers : Answers Teammate
team_answers time b d me item next now e births =
    AnswerAs boss_of time b d me item next now e births × (IsHere (boss_of b) → IsHere (boss_of now)) × AreHere boss_of births

-- The crew of each desk is a team: its supervisors hold their children, on desks that go on from this history. Each of them
-- spawns all its children.
pub record AreTeams (past : Past) (crews : List (Crew Teammate)) (desks : List DeskState) : Type 0 where
  pub hold : AllHold boss_of past crews desks
  pub here : CrewsHere boss_of crews
