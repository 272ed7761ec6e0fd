-- What a crew knows, and what each of its calls does.
use Rattle.std.specs.Prelude.{◌≡◌, ◌⊎◌, ⊤, ℕ, ◌+◌, ◌≤◌, max, cond, Bool, true, false, ◌||◌, List, [], ◌∷◌, ◌++◌, length}
use Rattle.std.specs.Prelude.{Option, Some, None, MatchBool, Result, Ok, Err}
use Rattle.std.specs.List.{IsDistinct}
use Rattle.std.specs.VecDeque.{deque_capacity, deque_len}
use Rattle.std.specs.Option.{option_map}
use Rattle.indexmap.specs.IndexMap.{get}
use Rattle.pt_signal.specs.declared.pid.Pid.{Pid}
use Rattle.pt_signal.specs.Values.{same_pid}
use Rattle.pt_shard.specs.declared.fault.Fault.{Fault}
use Rattle.pt_shard.specs.declared.fault.Fault.TheVariants.{Memory}
use Rattle.pt_events.specs.History.{is_unborn}
use Rattle.pt_shard.specs.ShardState.{ShardState, lives, phase_of}
use Rattle.pt_shard.specs.Calls.{Bears}
use Rattle.pt_desk.specs.DeskState.{DeskState}
use Rattle.pt_desk.specs.Turns.{Turns}
use Rattle.pt_desk.specs.declared.turned.Turned.{Turned}
use Rattle.pt_behaviour.specs.declared.behaviour.Next.{Next}
use Rattle.pt_behaviour.specs.Births.{born}
use Rattle.pt_crew.specs.declared.crew.Member.{Member}
use Rattle.pt_behaviour.specs.declared.births.Role.{Role}
use Rattle.pt_crew.specs.declared.crew.Crew.{Crew}
use Rattle.pt_behaviour.specs.Behaving.{limit_of, Answers}
use Rattle.pt_crew.specs.Waking.{Members, Knows, IsAwake, AreTimed, AreRung, in_queue, has_work}
use Rattle.pt_crew.specs.Visiting.{Roles, AreSame, AreWith, Scene, Visits}
use Rattle.pt_crew.specs.Handing.{Handed}

abbrev pub members : {B : Type 0} → Crew B → Members B
members c = get same_pid c.members

abbrev pub role : {B : Type 0} → Member B → B × Next
role m = (m.behaviour, m.next)

-- the processes of the crew, each with its behaviour and what it does next
abbrev pub roles : {B : Type 0} → Crew B → Roles B
roles c p = option_map role (members c p)

-- the processes that may have something to do, the first of them first
abbrev pub queue : {B : Type 0} → Crew B → List Pid
queue c = c.queue.items

-- who left in the last step, the first in front
abbrev pub left : {B : Type 0} → Crew B → List (Role B)
left c = c.left.items

-- who was born and waits to enter, the first in front
abbrev pub waiting : {B : Type 0} → Crew B → List (Role B)
waiting c = born c.births

-- how many processes are of the crew
abbrev pub crew_size : {B : Type 0} → Crew B → ℕ
crew_size c = length c.members.entries

-- how many events of its desk's journal it has read
abbrev pub read_events : {B : Type 0} → Crew B → ℕ
read_events c = c.read

-- how many rounds a step is to make
abbrev pub rounds_asked : {B : Type 0} → Crew B → ℕ
rounds_asked c = c.rounds

-- whether a call was refused in the last step
abbrev pub was_refused : {B : Type 0} → Crew B → Bool
was_refused c = c.refused

-- what time it is in the steps that follow
abbrev pub time_of : {B : Type 0} → Crew B → ℕ
time_of c = c.time

-- what the crew knows of its desk
abbrev pub KnowsDesk : {B : Type 0} → Crew B → ShardState → Type 0
KnowsDesk c d = Knows (members c) (queue c) (read_events c) d

-- how many of the entries are not marked
abbrev pub unmarked : {B : Type 0} → List (Pid × Member B) → ℕ
unmarked [] = 0
unmarked (e ∷ es) = cond e.1.queued 0 1 + unmarked es

-- the queue has room for all members that do not stand in it
abbrev pub HasRoom : {B : Type 0} → Crew B → Type 0
HasRoom c = deque_len c.queue + unmarked c.members.entries ≤ deque_capacity c.queue

-- its timers are those of its processes that wait until a time and do not stand in the queue
abbrev pub HasTimers : {B : Type 0} → Crew B → Type 0
HasTimers c = AreTimed (members c) c.timers

-- the crew is one of this desk: it is so as it is made, and whatever goes on with the desk leaves it so
pub record Attends {B : Type 0} (c : Crew B) (d : ShardState) : Type 0 where
  pub knows : KnowsDesk c d
  pub room : HasRoom c
  pub timers : HasTimers c

-- it is a process that waits until a time, and does not stand in the queue
pub record WaitsUntil {B : Type 0} (c : Crew B) (p : Pid) (at : ℕ) : Type 0 where
  pub behaviour : B
  pub next : Next
  pub role : roles c p ≡ Some (behaviour, next)
  pub until : limit_of next ≡ Some at
  pub apart : in_queue p (queue c) ≡ false

-- the earliest of those times, if there is one
abbrev pub IsNextTime : {B : Type 0} → Crew B → Option ℕ → Type 0
IsNextTime c (Some time) =
    ((p : Pid) × WaitsUntil c p time) × ((p : Pid) (at : ℕ) → WaitsUntil c p at → time ≤ at)
IsNextTime c None = (p : Pid) (at : ℕ) → WaitsUntil c p at → ⊥

-- each process of the crew was born on the desk
abbrev pub AreBorn : {B : Type 0} → Roles B → ShardState → Type 0
AreBorn {B} roles d = (p : Pid) (r : B × Next) → roles p ≡ Some r → is_unborn (phase_of d p) ≡ false

-- nobody of the crew has anything to do
abbrev pub IsIdle : {B : Type 0} → Crew B → ShardState → Type 0
IsIdle {B} c d = (p : Pid) (role : B × Next) → roles c p ≡ Some role → has_work role.1 (phase_of d p) ≡ false

-- so many rounds, the time, who waits to enter, and what the last step said, stay
pub record KeepsRest {B : Type 0} (old new : Crew B) : Type 0 where
  pub waiting : waiting new ≡ waiting old
  pub left : left new ≡ left old
  pub refused : was_refused new ≡ was_refused old
  pub rounds : rounds_asked new ≡ rounds_asked old
  pub time : time_of new ≡ time_of old

-- nothing that is known has changed
pub record IsSame {B : Type 0} (old new : Crew B) : Type 0 where
  pub members : (q : Pid) → members new q ≡ members old q
  pub queue : queue new ≡ queue old
  pub read : read_events new ≡ read_events old
  pub timers : new.timers ≡ old.timers
  pub rest : KeepsRest old new

-- A process is born and enters the crew, behind its queue; or nothing has changed, where the desk refused the birth or
-- there was no memory.
abbrev pub Enters : {B : Type 0} → B → Next → Crew B → ShardState → Result Pid Fault → Crew B → ShardState → Type 0
Enters b first old d (Ok p) new e =
    Bears None None d (Ok p) e × AreWith p (Some (b, first)) (roles old) (roles new)
    × (queue new ≡ queue old ++ p ∷ []) × KeepsRest old new
Enters b first old d (Err f) new e = (Bears None None d (Err f) e ⊎ ((f ≡ Memory) × (e ≡ d))) × IsSame old new

-- a crew with its desk in a step, where so many stand behind the queue
abbrev pub scene : {B : Type 0} → List Pid → Crew B → ShardState → Scene B
scene again c d = record {
  roles = roles c;
  again = again;
  born = waiting c;
  left = left c;
  refused = was_refused c;
  time = time_of c;
  desk = d;
}

-- Rounds, the last in front, each with the queue as it began: whoever stands in it is come to, in its order, and those
-- that go behind it are the queue of the next.
abbrev pub CrewRounds : {B : Type 0} → Answers B → List (List Pid) → Scene B → Scene B → Type 0
CrewRounds answers [] old new = new ≡ old
CrewRounds {B} answers (queue ∷ queues) old new =
    (mid : Scene B) × CrewRounds answers queues old mid × (mid.again ≡ queue)
    × Visits answers queue (record mid { again = [] }) new

-- in none of the queues somebody stands twice
abbrev pub AreOnce : List (List Pid) → Type 0
AreOnce [] = ⊤
AreOnce (queue ∷ queues) = IsDistinct same_pid queue × AreOnce queues

-- the processes of a crew with their behaviours, and who left
abbrev pub Aboard : Type 0 → Type 0
Aboard B = Roles B × List (Role B)

-- one that was born enters; or, where it has ended meanwhile, leaves at once
abbrev pub EntersOne : {B : Type 0} → (Pid → Bool) → Role B → Aboard B → Aboard B → Type 0
EntersOne lives r old new =
    MatchBool (lives r.pid) (AreWith r.pid (Some (r.behaviour, r.next)) old.0 new.0 × (new.1 ≡ old.1))
    (AreSame old.0 new.0 × (new.1 ≡ old.1 ++ r ∷ []))

-- so these, one after the other
abbrev pub EntersAll : {B : Type 0} → (Pid → Bool) → List (Role B) → Aboard B → Aboard B → Type 0
EntersAll lives [] old new = new ≡ old
EntersAll {B} lives (r ∷ rs) old new = (mid : Aboard B) × EntersOne lives r old mid × EntersAll lives rs mid new

-- somebody waits
abbrev pub are_any : {A : Type 0} → List A → Bool
are_any [] = false
are_any (x ∷ xs) = true

-- As many rounds as the crew makes in a step; then those that were born enter, all of them unless memory was refused;
-- and whoever was woken meanwhile stands behind the queue.
pub record StepsOn {B : Type 0} (answers : Answers B) (old : Crew B) (d : ShardState) (new : Crew B)
    (e : ShardState) : Type 0 where
  -- who stands behind the queue as the first round begins
  pub woken : List Pid
  -- so each process that has something to do as the step begins is in the queue of the first round
  pub first : Attends old d → IsAwake (members old) (queue old ++ woken) d
  -- and so is each one that waits until a time which has come
  pub due : Attends old d → AreRung (time_of old) (members old) (queue old ++ woken)
  pub queues : List (List Pid)
  pub last : Scene B
  pub rounds : CrewRounds answers queues
      (record {
        roles = roles old;
        again = queue old ++ woken;
        born = waiting old;
        left = [];
        refused = false;
        time = time_of old;
        desk = d;
      }) last
  pub count : length queues ≡ max 1 (rounds_asked old)
  pub once : Attends old d → AreOnce queues
  pub entered : List (Role B)
  pub born : last.born ≡ entered ++ waiting new
  pub enters : EntersAll (lives e) entered (last.roles, last.left) (roles new, left new)
  -- a call was refused in a round, or somebody could not enter
  pub told : was_refused new ≡ (last.refused || are_any (waiting new))
  pub queue : (later : List Pid) × (queue new ≡ last.again ++ later)
  pub desk : e ≡ last.desk
  pub same : rounds_asked new ≡ rounds_asked old
  pub time : time_of new ≡ time_of old

-- a step of a crew
pub record CrewDoes {B : Type 0} (answers : Answers B) (old : Crew B) (d : ShardState) (new : Crew B)
    (e : ShardState) : Type 0 where
  -- who stood in the queue is come to, in its order, once in each round
  pub steps : StepsOn answers old d new e
  -- each item that was taken was handed to the behaviour of its process, once and in order
  pub hands : Handed answers (time_of old) (roles old) d steps.last.roles e
  pub attends : Attends old d → Attends new e
  -- no wake-up is lost
  pub awake : Attends old d → IsAwake (members new) (queue new) e

-- a step, and then a turn of the desk
abbrev pub CrewWorks : {B : Type 0} → Answers B → ℕ → Crew B → DeskState → Turned → Crew B → DeskState → Type 0
CrewWorks answers budget old d turned new e =
    (stepped : DeskState) × CrewDoes answers old d.shard new stepped.shard × Turns budget stepped turned e
