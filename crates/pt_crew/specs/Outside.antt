-- What the outside is told of the processes whose handlers it has.
use Rattle.std.specs.Prelude.{◌≡◌, true, false, List, [], ◌∷◌, Option, Some, None}
use Rattle.std.specs.Option.{option_map}
use Rattle.pt_signal.specs.declared.pid.Pid.{Pid}
use Rattle.pt_signal.specs.declared.item.Item.{Item}
use Rattle.pt_behaviour.specs.declared.behaviour.Next.{Next}
use Rattle.pt_behaviour.specs.declared.behaviour.Next.TheVariants.{Running}
use Rattle.pt_behaviour.specs.Behaving.{Answers}
use Rattle.pt_crew.specs.Visiting.{Roles}
use Rattle.pt_crew.specs.Stepping.{is_running}

-- what is told: the process, what it was to do, the item that it gets or none, its behaviour before, what is told of it, if
-- anything is, and its behaviour afterwards
abbrev pub TellsOf : Type 0 → Type 0 → Type 1
TellsOf B T = Pid → Next → Option Item → B → Option T → B → Type 0

-- what the process in front of a queue is to do
abbrev pub next_in_front : {B : Type 0} → List Pid → Roles B → Option Next
next_in_front [] roles = None
next_in_front (p ∷ ps) roles = option_map (λ r. r.1) (roles p)

-- the outside is told something of a process that was to do this, and it is running then; or nothing is told, and the
-- process handles what it gets itself
abbrev pub tells_or : {B T : Type 0} → Answers B → TellsOf B T → Option Next → Option T → Answers B
tells_or answers tells front (Some told) time b d p item next now e births =
    (before : Next) × (front ≡ Some before) × tells p before item b (Some told) now
    × (next ≡ Running) × (e ≡ d) × (births ≡ [])
tells_or {B} answers tells front None time b d p item next now e births =
    (before : Next) × (mid : B) × (front ≡ Some before) × tells p before item b None mid
    × answers time mid d p item next now e births

-- the process in front of the queue was not running, and is running now
abbrev pub BeginsToRun : {B : Type 0} → List Pid → Roles B → Roles B → Type 0
BeginsToRun [] old new = ⊥
BeginsToRun (p ∷ ps) old new = (is_running (old p) ≡ false) × (is_running (new p) ≡ true)
