-- A step, told by the events that it writes: a live process has one event at most.
use Rattle.std.specs.Prelude.{◌≡◌, ◌⊎◌, ℕ, ◌+◌, ◌<◌, true, List, [], ◌∷◌, ◌++◌, map, Option, Some, None}
use Rattle.std.specs.List.{filter}
use Rattle.pt_signal.specs.declared.pid.Pid.{Pid}
use Rattle.pt_events.specs.declared.event.Event.{Event}
use Rattle.pt_events.specs.declared.event.Event.TheVariants.{Born, Said, Came, Took, Flag, Left, Refused}
use Rattle.pt_shard.specs.ShardState.{ShardState, lives, written}
use Rattle.pt_runner.specs.declared.runner.Actor.{Actor}
use Rattle.pt_runner.specs.declared.runner.Runner.{Runner}

-- the process that an event is an operation of: none of a receipt, or of a birth from outside
abbrev pub actor_of : Event → Option Pid
actor_of (Born p parent link) = parent
actor_of (Said a b x) = Some a
actor_of (Came a b x) = None
actor_of (Took p pick item) = Some p
actor_of (Flag p on) = Some p
actor_of (Left p reason) = Some p
actor_of (Refused a b) = Some a

-- the process that is born by it
abbrev pub child_of : Event → List Pid
child_of (Born p parent link) = p ∷ []
child_of _ = []

-- an event is stamped one above the clock; only the note of a refused call may be stamped higher
abbrev pub IsStampOf : ShardState → Event → ℕ → Type 0
IsStampOf old (Refused a b) n = old.clock < n
IsStampOf old _ n = n ≡ old.clock + 1

-- the live process p has this event; which slot is vacant afterwards is left open
pub record Does (p : Pid) (e : Event) (old new : ShardState) : Type 0 where
  pub author_is : actor_of e ≡ Some p
  pub alive : lives old p ≡ true
  pub stamp : ℕ
  pub stamped : IsStampOf old e stamp
  pub after : new ≡ record (written stamp e old) { vacant = new.vacant }

-- the process p has one event or none, and these are born by it
abbrev pub DoesOne : Pid → ShardState → ShardState → List Pid → Type 0
DoesOne p old new born = ((new ≡ old) × (born ≡ [])) ⊎ ((e : Event) × Does p e old new × (born ≡ child_of e))

-- so does one process after the other
abbrev pub EachDoesOne : List Pid → ShardState → ShardState → List Pid → Type 0
EachDoesOne [] old new born = (new ≡ old) × (born ≡ [])
EachDoesOne (p ∷ ps) old new born =
    (between : ShardState) × (here : List Pid) × (later : List Pid)
    × DoesOne p old between here × EachDoesOne ps between new later × (born ≡ here ++ later)

-- the processes of the script that were born on the runner's desk and are not known to have ended, in order of birth
abbrev pub processes_here : Runner → List Pid
processes_here r = map (λ (a : Actor). a.pid) r.actors.items

-- Each process of the list that was alive has one event at most, in order. Those are then of the list, and those that
-- they bore stand behind them.
pub record ProcessesStep (processes : List Pid) (old : ShardState) (now : List Pid) (new : ShardState) : Type 0 where
  pub born : List Pid
  pub each : EachDoesOne (filter (lives old) processes) old new born
  pub listed : now ≡ filter (lives old) processes ++ born

-- The process p has one event at most, and no other has any. Then those of the list that were alive are listed, and that
-- which p bore stands behind them.
pub record ProcessSteps (p : Pid) (processes : List Pid) (old : ShardState) (now : List Pid) (new : ShardState)
    : Type 0 where
  pub born : List Pid
  pub one : DoesOne p old new born
  pub listed : now ≡ filter (lives old) processes ++ born
