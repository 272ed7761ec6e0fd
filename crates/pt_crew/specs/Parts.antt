-- What the parts of a step do. No public clause cites this module.
use Rattle.std.specs.Prelude.{◌≡◌, ◌⊎◌, ◌+◌, ◌<◌, ◌≤◌, cond, Bool, true, false, ◌&&◌, ◌||◌, List, [], ◌∷◌, ◌++◌, length, Option, Some, None}
use Rattle.std.specs.Prelude.{ℕ, drop, nat_le, vec_len, vec_capacity, Result, Ok, Err}
use Rattle.std.specs.List.{list_any}
use Rattle.std.specs.VecDeque.{deque_capacity, deque_len}
use Rattle.std.specs.Map.{keys_of}
use Rattle.indexmap.specs.IndexMap.{spare}
use Rattle.pt_signal.specs.declared.pid.Pid.{Pid}
use Rattle.pt_signal.specs.declared.item.Item.{Item}
use Rattle.pt_signal.specs.declared.item.Pick.{Pick}
use Rattle.pt_signal.specs.Values.{same_pid}
use Rattle.pt_events.specs.declared.event.Event.{Event}
use Rattle.pt_events.specs.declared.event.Event.TheVariants.{Came, Left}
use Rattle.pt_shard.specs.declared.fault.Fault.{Fault}
use Rattle.pt_shard.specs.declared.fault.Fault.TheVariants.{Gone as Missing}
use Rattle.pt_shard.specs.ShardState.{ShardState, lives, phase_of}
use Rattle.pt_shard.specs.Calls.{Calls, take_event, first_match}
use Rattle.pt_behaviour.specs.declared.behaviour.Next.{Next}
use Rattle.pt_behaviour.specs.declared.behaviour.Next.TheVariants.{Wait, WaitUntil, Proceed, Running, Stop}
use Rattle.pt_crew.specs.declared.crew.Member.{Member}
use Rattle.pt_crew.specs.declared.crew.Crew.{Crew}
use Rattle.pt_crew.specs.declared.crew.Tended.{Tended}
use Rattle.pt_crew.specs.declared.crew.Tended.TheVariants.{Idle, Again, Done, Refused, Gone}
use Rattle.pt_timers.specs.declared.Timer.{Timer}
use Rattle.pt_timers.specs.Order.{same_timer}
use Rattle.pt_timers.specs.State.{TimersState, IsPending, body_of}
use Rattle.pt_timers.specs.Calls.{Started}
use Rattle.pt_behaviour.specs.Behaving.{limit_of}
use Rattle.pt_crew.specs.Waking.{IsQueue, has_work, timer_of}
use Rattle.pt_crew.specs.Visiting.{AreSame, again_as, leaves_crew, is_refused, left_as}
use Rattle.pt_behaviour.specs.declared.births.Role.{Role}
use Rattle.pt_crew.specs.Crews.{IsSame, KeepsRest, Aboard, EntersOne, EntersAll, HasTimers, members, queue, role, roles, left, waiting, are_any, unmarked, read_events, rounds_asked, was_refused, time_of}
use Rattle.pt_crew.specs.Stepping.{QueueIsLonger}

-- what the queue of a crew is
abbrev pub QueueHolds : {B : Type 0} → Crew B → Type 0
QueueHolds c = IsQueue (members c) (queue c)

-- p is marked, if it is of the crew; all else stays
pub record Wakes {B : Type 0} (p : Pid) (old new : Crew B) : Type 0 where
  pub others : (q : Pid) → same_pid p q ≡ false → members new q ≡ members old q
  pub marked : (m : Member B) → members new p ≡ Some m → m.queued ≡ true
  pub roles : AreSame (roles old) (roles new)
  pub queued : QueueHolds old → QueueHolds new
  pub longer : QueueIsLonger (queue old) (queue new)
  pub read : read_events new ≡ read_events old
  pub timers : HasTimers old → HasTimers new
  -- its timer, if it has one, is pending no more
  pub fewer : HasTimers old → (t : Timer) → timer_of (members old p) ≡ Some t
      → length new.timers.pending + 1 ≡ length old.timers.pending
  pub rest : KeepsRest old new

-- whoever is of the crew, and not among these, is marked
abbrev pub MarkedBut : {B : Type 0} → List Pid → Crew B → Type 0
MarkedBut {B} rest c =
    (p : Pid) (m : Member B) → list_any (same_pid p) rest ≡ false → members c p ≡ Some m → m.queued ≡ true

-- the process at that place is marked, if there is one
pub record WakesAt {B : Type 0} (place : ℕ) (old new : Crew B) : Type 0 where
  pub keys : keys_of new.members.entries ≡ keys_of old.members.entries
  pub marked : MarkedBut (drop place (keys_of old.members.entries)) old
      → MarkedBut (drop (place + 1) (keys_of old.members.entries)) new
  pub roles : AreSame (roles old) (roles new)
  pub queued : QueueHolds old → QueueHolds new
  pub longer : QueueIsLonger (queue old) (queue new)
  pub timers : HasTimers old → HasTimers new
  pub rest : KeepsRest old new

-- who is woken by the event
abbrev pub WakesBy : {B : Type 0} → Event → Crew B → Crew B → Type 0
WakesBy (Came a b x) old new = Wakes b old new
WakesBy (Left p r) old new = Wakes p old new
WakesBy _ old new = IsSame old new

-- what comes of a process that is to exit
abbrev pub ended_as : Result (Unit {0}) Fault → Tended
ended_as (Ok done) = Gone
ended_as (Err Missing) = Gone
ended_as (Err f) = Refused

-- what a process that asked for an item gets, or else what comes of it
abbrev pub got_as : Bool → Result (Option Item) Fault → Result (Option Item) Tended
got_as over (Ok None) = cond over (Ok None) (Err Idle)
got_as over (Ok (Some item)) = Ok (Some item)
got_as over (Err Missing) = Err Gone
got_as over (Err f) = Err Refused

-- the first item that the pick fits is asked for
abbrev pub GetsItem : Pid → Pick → Bool → ShardState → Result (Option Item) Tended → ShardState → Type 0
GetsItem p pick over d got e =
    (result : Result (Option Item) Fault) × Calls p (take_event d p pick) (first_match d p pick) d result e
    × (got ≡ got_as over result)

-- what p gets that does this next: an item or none; or else what comes of it
abbrev pub Gets : ℕ → Pid → Next → ShardState → Result (Option Item) Tended → ShardState → Type 0
Gets time p (Stop reason) d got e =
    (result : Result (Unit {0}) Fault) × Calls p (Some (Left p reason)) (tt {0}) d result e × (got ≡ Err (ended_as result))
Gets time p Proceed d got e = (e ≡ d) × (got ≡ cond (lives d p) (Ok None) (Err Gone))
Gets time p Running d got e = (e ≡ d) × (got ≡ Err (cond (lives d p) Idle Gone))
Gets time p (Wait pick) d got e = GetsItem p pick false d got e
Gets time p (WaitUntil pick at) d got e = GetsItem p pick (nat_le at time) d got e

-- a process that is idle has nothing to do
abbrev pub MemberTends : {B : Type 0} → Pid → Tended → Member B → ShardState → Type 0
MemberTends p Idle new d = has_work new.next (phase_of d p) ≡ false
MemberTends p Again new d = Unit {0}
MemberTends p Done new d = has_work new.next (phase_of d p) ≡ false
MemberTends p Refused new d = Unit {0}
MemberTends p Gone new d = Unit {0}

-- what a process that was seen to is then
abbrev pub kept_as : {B : Type 0} → Tended → Member B → Option (B × Next)
kept_as Idle m = Some (role m)
kept_as Again m = Some (role m)
kept_as Done m = Some (role m)
kept_as Refused m = Some (role m)
kept_as Gone m = None

-- there is room for one who enters, or leaves at once
abbrev pub CanEnter : {B : Type 0} → Crew B → Type 0
CanEnter c =
    (0 < spare c.members) × (deque_len c.queue + length c.members.entries < deque_capacity c.queue)
    × (vec_len c.left < vec_capacity c.left) × (length c.members.entries < vec_len c.hints.places)

-- p, which was come to, goes behind the queue, or leaves the crew, or stays as it is
pub record PutsMember {B : Type 0} (p : Pid) (t : Tended) (old new : Crew B) : Type 0 where
  pub members : (q : Pid) → members new q ≡ cond (leaves_crew t && same_pid p q) None (members old q)
  pub queue : queue new ≡ queue old ++ again_as p t
  pub left : left new ≡ left old ++ left_as p (roles old p) t
  pub refused : was_refused new ≡ (was_refused old || is_refused t)
  pub waiting : waiting new ≡ waiting old
  pub read : read_events new ≡ read_events old
  pub rounds : rounds_asked new ≡ rounds_asked old
  pub time : time_of new ≡ time_of old
  pub timers : new.timers ≡ old.timers
  pub room : (deque_capacity new.queue ≡ deque_capacity old.queue) × (deque_len new.queue ≡ deque_len old.queue + length (again_as p t))
      × (unmarked new.members.entries ≤ unmarked old.members.entries)

-- it is of the crew and stands in the queue
abbrev pub is_marked : {B : Type 0} → Option (Member B) → Bool
is_marked None = false
is_marked (Some m) = m.queued

-- p is marked, if it is of the crew
abbrev pub AllMarked : {B : Type 0} → Pid → Crew B → Type 0
AllMarked {B} p c = (m : Member B) → members c p ≡ Some m → m.queued ≡ true

-- who is aboard
abbrev pub aboard : {B : Type 0} → Crew B → Aboard B
aboard c = (roles c, left c)

-- the first of those that were born enters, if there is one; it is refused only if there is no room for it
abbrev pub AdmitsOf : {B : Type 0} → (Pid → Bool) → List (Role B) → Crew B → Crew B → Type 0
AdmitsOf lives [] old new = (aboard new ≡ aboard old) × (waiting new ≡ []) × (was_refused new ≡ was_refused old)
AdmitsOf lives (r ∷ rs) old new =
    EntersOne lives r (aboard old) (aboard new) × (waiting new ≡ rs) × (was_refused new ≡ was_refused old)

pub record AdmitsFirst {B : Type 0} (lives : Pid → Bool) (old new : Crew B) : Type 0 where
  pub admits : AdmitsOf lives (waiting old) old new
      ⊎ ((aboard new ≡ aboard old) × (waiting new ≡ waiting old) × (was_refused new ≡ true) × (CanEnter old → ⊥))
  pub longer : QueueIsLonger (queue old) (queue new)
  pub rounds : rounds_asked new ≡ rounds_asked old
  pub time : time_of new ≡ time_of old

-- those that were born enter, the first ones: one at least if there is room for one, and all unless it was refused
pub record Admits {B : Type 0} (lives : Pid → Bool) (old new : Crew B) : Type 0 where
  pub entered : List (Role B)
  pub born : waiting old ≡ entered ++ waiting new
  pub enters : EntersAll lives entered (aboard old) (aboard new)
  pub first : CanEnter old → are_any (waiting old) ≡ true → are_any entered ≡ true
  pub told : was_refused new ≡ (was_refused old || are_any (waiting new))
  pub longer : QueueIsLonger (queue old) (queue new)
  pub rounds : rounds_asked new ≡ rounds_asked old
  pub time : time_of new ≡ time_of old

-- a timer, if there is one, is pending no more
abbrev pub Stops : Option Timer → TimersState Pid → TimersState Pid → Type 0
Stops None old new = new ≡ old
Stops (Some t) old new =
    ((u : Timer) → body_of new u ≡ cond (same_timer t u) None (body_of old u))
    × (IsPending old t → length new.pending + 1 ≡ length old.pending)

-- the time until which a process sleeps of which that came
abbrev pub sleeper : Tended → Next → Option ℕ
sleeper Idle next = limit_of next
sleeper _ next = None

-- one that sleeps until a time has a timer of it then, or is refused for want of memory; all else stays
abbrev pub SleepsUntil : {B : Type 0} → Option ℕ → Pid → Tended → Member B → TimersState Pid → Tended → Member B
    → TimersState Pid → Type 0
SleepsUntil None p tended m old result w new = (result ≡ tended) × (w ≡ m) × (new ≡ old)
SleepsUntil (Some at) p tended m old result w new =
    ((t : Timer) × (result ≡ Idle) × (w ≡ record m { timer = Some t }) × Started at p old t new)
    ⊎ ((result ≡ Refused) × (w ≡ m) × (new ≡ old))
