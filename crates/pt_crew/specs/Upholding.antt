-- What the behaviours of a crew uphold on its desk.
use Rattle.std.specs.Prelude.{◌≡◌, ◌⊎◌, ⊤, false, List, [], ◌∷◌, Some}
use Rattle.pt_signal.specs.declared.pid.Pid.{Pid}
use Rattle.pt_events.specs.History.{is_unborn}
use Rattle.pt_shard.specs.ShardState.{ShardState, phase_of}
use Rattle.pt_behaviour.specs.declared.behaviour.Next.{Next}
use Rattle.pt_behaviour.specs.declared.births.Role.{Role}
use Rattle.pt_behaviour.specs.Upholding.{Relation, StandsFirst, AllFirst}
use Rattle.pt_crew.specs.declared.crew.Crew.{Crew}
use Rattle.pt_crew.specs.Visiting.{Roles}
use Rattle.pt_crew.specs.Crews.{roles, waiting}

-- each of them was born, and stands so
abbrev pub AllStand : {B : Type 0} → Relation B → Roles B → ShardState → Type 0
AllStand {B} stands roles d =
    (p : Pid) (role : B × Next) → roles p ≡ Some role
    → (is_unborn (phase_of d p) ≡ false) × stands role.0 role.1 p d

-- one that left was born and stands so still; or it is one that begins, and ended before it could enter
abbrev pub StandsStill : {B : Type 0} → Relation B → Role B → ShardState → Type 0
StandsStill stands r d =
    ((is_unborn (phase_of d r.pid) ≡ false) × stands r.behaviour r.next r.pid d)
    ⊎ StandsFirst stands r.behaviour r.next r.pid

abbrev pub AllStill : {B : Type 0} → Relation B → List (Role B) → ShardState → Type 0
AllStill stands [] d = ⊤
AllStill stands (r ∷ rs) d = StandsStill stands r d × AllStill stands rs d

-- so all of a crew, and those that were born and wait to enter
pub record Upholds {B : Type 0} (stands : Relation B) (c : Crew B) (d : ShardState) : Type 0 where
  pub members : AllStand stands (roles c) d
  pub waiting : AllFirst stands (waiting c)
