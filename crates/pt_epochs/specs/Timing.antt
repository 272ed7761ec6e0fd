-- A crew whose time is set.
use Rattle.std.specs.Prelude.{◌≡◌, ℕ}
use Rattle.pt_shard.specs.ShardState.{ShardState}
use Rattle.pt_crew.specs.declared.crew.Crew.{Crew}
use Rattle.pt_crew.specs.Visiting.{AreSame}
use Rattle.pt_crew.specs.Crews.{Attends, left, queue, roles, rounds_asked, time_of, waiting, was_refused}

-- the crew is as it was, but for its time
pub record SetsTime {B : Type 0} (old : Crew B) (now : ℕ) (new : Crew B) : Type 0 where
  pub time : time_of new ≡ now
  pub attends : (d : ShardState) → Attends old d → Attends new d
  pub roles : AreSame (roles old) (roles new)
  pub queue : queue new ≡ queue old
  pub rest : (rounds_asked new ≡ rounds_asked old) × (was_refused new ≡ was_refused old)
      × (waiting new ≡ waiting old) × (left new ≡ left old)
