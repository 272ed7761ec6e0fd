-- `all_staffed`: what holds in its loop over `place`.
use Rattle.std.proofs.Common.{◌≡◌, [], length}
use Rattle.pt_node.specs.Pasts.{GoOnFrom}
use Rattle.pt_crew.proofs.Runs.{FirstUphold}
use Rattle.pt_supervisor.specs.Keeping.{Keeps}
use Rattle.pt_pauses.specs.Here.{CrewsHere}
use Rattle.example_scenes.specs.Team.{boss_of}
use Rattle.example_scenes.proofs.team.all_staffed.Given as goal

abbrev pub invariant-loop-place : goal.invariant-loop-place
invariant-loop-place l = record {
  count : length l.crews.items ≡ l.place;
  same : length l.desks.items ≡ length l.fn.desks.items;
  first : FirstUphold (Keeps [] boss_of) l.crews.items l.desks.items;
  here : CrewsHere boss_of l.crews.items;
  from : GoOnFrom [] l.fn.desks.items → GoOnFrom [] l.desks.items;
}
