-- What an operation of a process does, and what a step does: the operations of the processes, one after the other.
use Rattle.std.specs.Prelude.{◌≡◌, ◌⊎◌, ℕ, ℤ, zero, suc, ◌+◌, ◌-◌, ◌^◌, ◌<◌, Bool, true, false, cond, is_some, List, []}
use Rattle.std.specs.Prelude.{◌∷◌, ◌++◌, drop, length, map, min, nat_lt, replicate, slice_get, slice_index_or, slice_set, Option, Some, None}
use Rattle.std.specs.Prelude.{Result, Ok, Err}
use Rattle.std.specs.Bool.{then_some}
use Rattle.std.specs.List.{filter, find, position}
use Rattle.std.specs.Option.{option_map}
use Rattle.pt_signal.specs.declared.ids.Ref.{Ref}
use Rattle.pt_signal.specs.declared.item.Item.{Item}
use Rattle.pt_signal.specs.declared.item.Pick.{Pick}
use Rattle.pt_signal.specs.declared.pid.Pid.{Pid}
use Rattle.pt_signal.specs.declared.reason.Reason.TheVariants.{Normal, Other}
use Rattle.pt_signal.specs.declared.signal.Signal.{Signal}
use Rattle.pt_signal.specs.Values.{fits, same_pid}
use Rattle.pt_events.specs.declared.event.Event.{Event}
use Rattle.pt_events.specs.declared.event.Event.TheVariants.{Said, Flag, Left}
use Rattle.pt_shard.specs.declared.fault.Fault.{Fault}
use Rattle.pt_shard.specs.declared.fault.Fault.TheVariants.{Full, Myself, NoProc}
use Rattle.pt_shard.specs.Calls.{Calls, Monitors, BearsChild, link_event, unlink_event, take_event, first_match}
use Rattle.pt_shard.specs.Calls.{demonitor_event, new_ref}
use Rattle.pt_shard.specs.Known.{knows}
use Rattle.pt_shard.specs.ShardState.{ShardState, lives, state_in}
use Rattle.pt_desk.specs.DeskState.{DeskState, HasSameEnds}
use Rattle.pt_desk.specs.Reaching.{IsReached, has_link_to_make, has_monitor_to_make}
use Rattle.pt_script.specs.Plans.{Plan}
use Rattle.pt_script.specs.declared.values.Operation.{Operation}
use Rattle.pt_script.specs.declared.values.Operation.TheVariants.{Send, Receive, Check, Link, Unlink, Monitor}
use Rattle.pt_script.specs.declared.values.Operation.TheVariants.{Demonitor, Alive, Trap, Exit, Signal as SendExit}
use Rattle.pt_script.specs.declared.values.Operation.TheVariants.{Spawn, Pass, ReceiveAfter, If, Else, End, Repeat, Again}
use Rattle.pt_script.specs.declared.values.Pattern.{Pattern}
use Rattle.pt_script.specs.declared.values.Pattern.TheVariants.{Any, Kind, From, ExitOf, DownOf, AliveOf}
use Rattle.pt_runner.specs.declared.calls.Progress.{Progress}
use Rattle.pt_runner.specs.declared.calls.Progress.TheVariants.{Done, Took, Waits, Stays, Ends}
use Rattle.pt_runner.specs.declared.reading.Reading.{Reading}
use Rattle.pt_runner.specs.declared.reading.Reading.TheVariants.{Here, Over}
use Rattle.pt_runner.specs.declared.runner.Actor.{Actor}
use Rattle.pt_runner.specs.declared.runner.Place.{Place}
use Rattle.pt_runner.specs.declared.runner.Runner.{Runner}

-- a runner's table ----------------------------------------------------------------------

-- a process of the script that was born on the desk
pub record Acting : Type 0 where
  pub pid : Pid
  -- its number in the script
  pub process : ℕ
  -- whether trapping exits is its next operation, before those of its list
  pub begins : Bool
  -- how many operations of its list are behind it
  pub done : ℕ
  -- how often its next operation was refused for memory or at the clock's limit
  pub refused : ℕ
  -- what its monitors and asks got, by tag
  pub references : List (Option Ref)

pub record PidTable : Type 0 where
  -- what the processes of the script do, by number
  pub plans : List Plan
  -- their pids, as far as operations here may name them
  pub pids : List (Option Pid)
  -- those that were born here, in order of birth
  pub actors : List Acting

abbrev pub acting : Actor → Acting
acting a = record {
  pid = a.pid;
  process = a.process;
  begins = a.begins;
  done = a.done;
  refused = a.refused;
  references = a.references.items;
}

abbrev pub table : Runner → PidTable
table r = record { plans = r.script.now.processes; pids = r.pids.items; actors = map acting r.actors.items }

-- where a process is in its list
abbrev pub place_of : Acting → Place
place_of a = record { begins = a.begins; done = a.done; refused = a.refused }

-- where the process p is in its list, if it was born here
abbrev pub place_listed : PidTable → Pid → Option Place
place_listed t p = option_map place_of (find (λ (a : Acting). same_pid a.pid p) t.actors)

abbrev pub place_at : Option Runner → Pid → Option Place
place_at None p = None
place_at (Some r) p = place_listed (table r) p

-- where a process is in its list, by the runner of its desk
abbrev pub place_among : List Runner → Pid → Option Place
place_among runners p = place_at (slice_get runners p.shard) p

abbrev pub plan_at : List Plan → ℕ → Plan
plan_at plans process = slice_index_or plans process (record { trap = false; operations = [] })

-- a process that is born now: with `trap` it begins by trapping exits
abbrev pub newborn_actor : List Plan → ℕ → Pid → Acting
newborn_actor plans process p = record {
  pid = p;
  process = process;
  begins = (plan_at plans process).trap;
  done = 0;
  refused = 0;
  references = [];
}

-- a receive that was tried as often as it says waits no longer
abbrev pub in_time : ℕ → Operation → Operation
in_time tried (ReceiveAfter pattern tries) = cond (nat_lt tried tries) (ReceiveAfter pattern tries) (Check pattern)
in_time tried o = o

-- the next operation: behind the last one of the list the process exits
abbrev pub next_of : List Plan → Acting → Operation
next_of plans a =
    cond a.begins (Trap true)
    (in_time a.refused (slice_index_or (plan_at plans a.process).operations a.done (Exit Normal)))

-- its next operation was refused once more, and is tried again; this count too stays at the greatest number
abbrev pub put_off : Acting → Acting
put_off a = record a { refused = min (a.refused + 1) (2 ^ 64 - 1) }

-- what an operation names -----------------------------------------------------------------

-- the pid of the process of this number
abbrev pub pid_numbered : List (Option Pid) → ℕ → Option Pid
pid_numbered pids process = slice_index_or pids process None

abbrev pub if_known : ShardState → Option Pid → Option Pid
if_known d None = None
if_known d (Some p) = then_some (knows d p) p

-- that of a target: none where the desk does not know it
abbrev pub target_of : ShardState → List (Option Pid) → ℕ → Option Pid
target_of d pids process = if_known d (pid_numbered pids process)

abbrev pub pid_if : List (Option Pid) → Option ℕ → Option Pid
pid_if pids None = None
pid_if pids (Some process) = pid_numbered pids process

-- the reference of this tag
abbrev pub reference_of : List (Option Ref) → ℕ → Option Ref
reference_of references tag = slice_index_or references tag None

abbrev pub pick_meant : List (Option Pid) → List (Option Ref) → Pattern → Option Pick
pick_meant pids references Any = Some Pick.Any
pick_meant pids references (Kind kind) = Some (Pick.Kind kind)
pick_meant pids references (From process) = option_map Pick.From (pid_numbered pids process)
pick_meant pids references (ExitOf process) = option_map Pick.ExitOf (pid_numbered pids process)
pick_meant pids references (DownOf tag) = option_map Pick.DownOf (reference_of references tag)
pick_meant pids references (AliveOf tag) = option_map Pick.AliveOf (reference_of references tag)

-- branches ----------------------------------------------------------------------------------

abbrev pub fits_pick : Option Pick → Item → Bool
fits_pick None item = false
fits_pick (Some k) item = fits k item

-- an `if` does what follows it: the item that was taken just before fits
abbrev pub fits_taken : List (Option Pid) → List (Option Ref) → Item → Pattern → Bool
fits_taken pids references item pattern = fits_pick (pick_meant pids references pattern) item

-- no item was taken
abbrev pub fits_none : Pattern → Bool
fits_none pattern = false

-- the same of what was taken, if anything was
abbrev pub fits_if_taken : List (Option Pid) → List (Option Ref) → Option Item → Pattern → Bool
fits_if_taken pids references None = fits_none
fits_if_taken pids references (Some item) = fits_taken pids references item

-- Behind an operation that would be done next, if it only begins or ends a block; none if it is to be done.
abbrev pub past_here : (Pattern → Bool) → Operation → Option Reading
past_here test (If pattern) = Some (cond (test pattern) Here (Over 0 true))
past_here test Else = Some (Over 0 false)
past_here test End = Some Here
past_here test _ = None

-- Behind an operation of a branch that is not taken, inside so many others. The branch may stop at an `else`.
abbrev pub past_over : ℕ → Bool → Operation → Reading
past_over depth stops (If pattern) = Over (min (depth + 1) (2 ^ 64 - 1)) stops
past_over zero true Else = Here
past_over zero stops End = Here
past_over (suc depth) stops End = Over depth stops
past_over depth stops _ = Over depth stops

-- behind one more operation, if it is passed over
abbrev pub past_mark : (Pattern → Bool) → Reading → Operation → Option Reading
past_mark test Here o = past_here test o
past_mark test (Over depth stops) o = Some (past_over depth stops o)

-- how many operations come before the next one that is done
abbrev pub passed_from : (Pattern → Bool) → Reading → List Operation → ℕ
passed_from test reading [] = 0
passed_from test reading (o ∷ os) = elim (past_mark test reading o) [ None ↦ 0 | Some further ↦ 1 + passed_from test further os ]

-- the place of the next operation that is done, from this place of a list on
abbrev pub next_place : (Pattern → Bool) → List Operation → ℕ → ℕ
next_place test os place = place + passed_from test Here (drop place os)

-- The next operation is behind it, and it goes on at the first one that is to be done, where the test says which branches are
-- taken. The count stays at the greatest number, past every list.
abbrev pub advanced : List Plan → (Pattern → Bool) → Acting → Acting
advanced plans test a =
    cond a.begins (record a { begins = false; refused = 0 })
    (record a {
      done = next_place test (plan_at plans a.process).operations (min (a.done + 1) (2 ^ 64 - 1));
      refused = 0;
    })

-- what an operation does ------------------------------------------------------------------

-- what comes of an operation, by the answer to its call
abbrev pub came_of : {A : Type 0} → Result A Fault → Progress
came_of (Ok x) = Done
came_of (Err Full) = Ends (Other 1)
came_of (Err Myself) = Ends (Other 5)
came_of (Err NoProc) = Done
came_of (Err _) = Stays

-- it is passed over
abbrev pub IsPassed : ShardState → Progress → ShardState → Type 0
IsPassed old progress new = (progress ≡ Done) × (new ≡ old)

-- it is a call of p, and its answer says what comes of it
abbrev pub IsCall : {A : Type 0} → Pid → Option Event → A → ShardState → Progress → ShardState → Type 0
IsCall {A} p event a old progress new =
    (answer : Result A Fault) × Calls p event a old answer new × (progress ≡ came_of answer)

-- a call on a target, passed over without one
abbrev pub CallsTarget : Option Pid → Pid → (Pid → Option Event) → ShardState → Progress → ShardState → Type 0
CallsTarget None p event old progress new = IsPassed old progress new
CallsTarget (Some t) p event old progress new = IsCall p (event t) (tt {0}) old progress new

-- a call that reaches for a target, passed over without one
abbrev pub ReachesAt : Option Pid → Pid → (Pid → Bool) → (Pid → Option Event) → ShardState → Progress → ShardState
    → Type 0
ReachesAt None p looks event old progress new = IsPassed old progress new
ReachesAt (Some t) p looks event old progress new =
    (answer : Result (Unit {0}) Fault)
    × IsReached (looks t) p t (Calls p (event t) (tt {0}) old answer new) old answer new
    × (progress ≡ came_of answer)

abbrev pub Sends : List (Option Pid) → Pid → ℕ → ℕ → ℤ → Option ℕ → ShardState → Progress → ShardState → Type 0
Sends pids p to kind num who old progress new =
    ReachesAt (target_of old pids to) p (λ t. lives old p)
    (λ t. Some (Said p t (Signal.Message (record { kind = kind; num = num; who = pid_if pids who })))) old progress new

-- what comes of a receive, where `without` does so when no item fits
abbrev pub taken_of : Progress → Result (Option Item) Fault → Progress
taken_of without (Ok None) = without
taken_of without (Ok (Some item)) = Took item
taken_of without answer = came_of answer

abbrev pub Takes : Option Pick → Pid → Progress → ShardState → Progress → ShardState → Type 0
Takes None p without old progress new = IsPassed old progress new
Takes (Some k) p without old progress new =
    (answer : Result (Option Item) Fault) × Calls p (take_event old p k) (first_match old p k) old answer new
    × (progress ≡ taken_of without answer)

abbrev pub Demonitors : Option Ref → Pid → Bool → ShardState → Progress → ShardState → Type 0
Demonitors None p flush old progress new = IsPassed old progress new
Demonitors (Some m) p flush old progress new =
    IsCall p (demonitor_event old p m flush) (is_some (demonitor_event old p m flush)) old progress new

-- The references up to this tag. Those of operations that were passed over are none.
abbrev pub padded_to : ℕ → List (Option Ref) → List (Option Ref)
padded_to tag references = references ++ replicate (tag - length references) None

-- and what the tag of an operation stands for by the answer: a reference, or none where it is passed over
abbrev pub with_answer : ℕ → List (Option Ref) → Result Ref Fault → List (Option Ref)
with_answer tag references (Ok reference) = padded_to tag references ++ Some reference ∷ []
with_answer tag references (Err NoProc) = padded_to tag references ++ None ∷ []
with_answer tag references (Err _) = references

abbrev pub HasNoRoom : ShardState → List (Option Ref) → Progress → ShardState → List (Option Ref) → Type 0
HasNoRoom old references progress new after = (progress ≡ Stays) × (new ≡ old) × (after ≡ references)

-- the tag of what was passed over has no reference
abbrev pub HasNoTarget : ℕ → ShardState → List (Option Ref) → Progress → ShardState → List (Option Ref) → Type 0
HasNoTarget tag old references progress new after =
    IsPassed old progress new × (after ≡ with_answer tag references (Err NoProc))

-- a monitor; without memory for its tag it is tried again
abbrev pub MonitorsAt : Pid → Option Pid → ℕ → ShardState → List (Option Ref) → Progress → ShardState
    → List (Option Ref) → Type 0
MonitorsAt p None tag old references progress new after =
    HasNoRoom old references progress new after ⊎ HasNoTarget tag old references progress new after
MonitorsAt p (Some t) tag old references progress new after =
    HasNoRoom old references progress new after
    ⊎ ((answer : Result Ref Fault)
    × IsReached (has_monitor_to_make old p t) p t (Monitors p t old answer new) old answer new
    × (progress ≡ came_of answer) × (after ≡ with_answer tag references answer))

-- an ask, likewise
abbrev pub AsksAt : Pid → Option Pid → ℕ → ShardState → List (Option Ref) → Progress → ShardState → List (Option Ref)
    → Type 0
AsksAt p None tag old references progress new after =
    HasNoRoom old references progress new after ⊎ HasNoTarget tag old references progress new after
AsksAt p (Some t) tag old references progress new after =
    HasNoRoom old references progress new after
    ⊎ ((answer : Result Ref Fault)
    × Calls p (Some (Said p t (Signal.AliveAsk (new_ref old)))) (new_ref old) old answer new
    × (progress ≡ came_of answer) × (after ≡ with_answer tag references answer))

-- An operation of p that bears nobody: what it does to the desk, what comes of it, and the references of p behind it.
abbrev pub Performs : List (Option Pid) → Pid → Operation → ShardState → List (Option Ref) → Progress → ShardState
    → List (Option Ref) → Type 0
Performs pids p (Send to kind num who) old references progress new after =
    Sends pids p to kind num who old progress new × (after ≡ references)
Performs pids p (Receive pattern) old references progress new after =
    Takes (pick_meant pids references pattern) p Waits old progress new × (after ≡ references)
Performs pids p (Check pattern) old references progress new after =
    Takes (pick_meant pids references pattern) p Done old progress new × (after ≡ references)
Performs pids p (ReceiveAfter pattern tries) old references progress new after =
    Takes (pick_meant pids references pattern) p Stays old progress new × (after ≡ references)
Performs pids p (Link to) old references progress new after =
    ReachesAt (target_of old pids to) p (has_link_to_make old p) (link_event old p) old progress new
    × (after ≡ references)
Performs pids p (Unlink to) old references progress new after =
    CallsTarget (target_of old pids to) p (unlink_event old p) old progress new × (after ≡ references)
Performs pids p (Monitor to tag) old references progress new after =
    MonitorsAt p (target_of old pids to) tag old references progress new after
Performs pids p (Demonitor tag flush) old references progress new after =
    Demonitors (reference_of references tag) p flush old progress new × (after ≡ references)
Performs pids p (Alive to tag) old references progress new after =
    AsksAt p (target_of old pids to) tag old references progress new after
Performs pids p (Trap on) old references progress new after =
    IsCall p (Some (Flag p on)) (state_in old p).traps old progress new × (after ≡ references)
Performs pids p (Exit reason) old references progress new after =
    IsCall p (Some (Left p reason)) (tt {0}) old progress new × (after ≡ references)
Performs pids p (SendExit to reason) old references progress new after =
    CallsTarget (target_of old pids to) p (λ t. Some (Said p t (Signal.Exit reason))) old progress new
    × (after ≡ references)
Performs pids p (Spawn process linked) old references progress new after = ⊥
Performs pids p Pass old references progress new after = IsPassed old progress new × (after ≡ references)
Performs pids p (If pattern) old references progress new after = IsPassed old progress new × (after ≡ references)
Performs pids p Else old references progress new after = IsPassed old progress new × (after ≡ references)
Performs pids p End old references progress new after = IsPassed old progress new × (after ≡ references)
Performs pids p (Repeat times) old references progress new after = IsPassed old progress new × (after ≡ references)
Performs pids p Again old references progress new after = IsPassed old progress new × (after ≡ references)

-- a process that was to end, by the answer to that
abbrev pub ended_or_put_off : Result (Unit {0}) Fault → Acting → Acting
ended_or_put_off (Ok _) a = a
ended_or_put_off (Err _) a = put_off a

-- How a process goes on behind its operation: the next one comes, or it is tried again, or the process ends by the
-- refusal. An end that is refused in its turn leaves the operation to be tried again.
abbrev pub GoesBehind : List Plan → List (Option Pid) → Progress → Acting → ShardState → Acting → ShardState → Type 0
GoesBehind plans pids Done a old b new = (b ≡ advanced plans fits_none a) × (new ≡ old)
GoesBehind plans pids (Took item) a old b new =
    (b ≡ advanced plans (fits_taken pids a.references item) a) × (new ≡ old)
GoesBehind plans pids Waits a old b new = (b ≡ a) × (new ≡ old)
GoesBehind plans pids Stays a old b new = (b ≡ put_off a) × (new ≡ old)
GoesBehind plans pids (Ends reason) a old b new =
    (answer : Result (Unit {0}) Fault) × (b ≡ ended_or_put_off answer a)
    × Calls a.pid (Some (Left a.pid reason)) (tt {0}) old answer new

-- A process does an operation that bears nobody.
pub record Plays (plans : List Plan) (pids : List (Option Pid)) (operation : Operation) (a : Acting) (old : ShardState)
    (b : Acting) (new : ShardState) : Type 0 where
  pub progress : Progress
  pub references : List (Option Ref)
  pub between : ShardState
  pub performs : Performs pids a.pid operation old a.references progress between references
  pub behind : GoesBehind plans pids progress (record a { references = references }) between b new

-- what an operation does to the table ----------------------------------------------------------

abbrev pub set_acting : ℕ → Acting → PidTable → PidTable
set_acting i b t = record t { actors = slice_set t.actors i b }

-- the child that was born stands last, and its number has its pid
abbrev pub with_born : ℕ → Result Pid Fault → PidTable → PidTable
with_born process (Ok p) t = record t {
  pids = slice_set t.pids process (Some p);
  actors = t.actors ++ newborn_actor t.plans process p ∷ [];
}
with_born process (Err _) t = t

-- the process a, at place i, bears a child
pub record Spawns (process : ℕ) (linked : Bool) (i : ℕ) (a : Acting) (t : PidTable) (old : ShardState) (u : PidTable)
    (new : ShardState) : Type 0 where
  pub answer : Result Pid Fault
  pub between : ShardState
  pub b : Acting
  pub bears : BearsChild a.pid linked old answer between
  pub behind : GoesBehind t.plans t.pids (came_of answer) a between b new
  pub table : u ≡ set_acting i b (with_born process answer t)

-- one that was not born before; without memory to list the child, nothing is done, and it is tried again
abbrev pub SpawnsNew : ℕ → Bool → ℕ → Acting → PidTable → ShardState → PidTable → ShardState → Type 0
SpawnsNew process linked i a t old u new =
    ((u ≡ set_acting i (put_off a) t) × (new ≡ old)) ⊎ Spawns process linked i a t old u new

-- a process that was born already, with this pid, is not born again: the spawn is passed over
abbrev pub SpawnsIfNew : Option Pid → ℕ → Bool → ℕ → Acting → PidTable → ShardState → PidTable → ShardState → Type 0
SpawnsIfNew (Some p) process linked i a t old u new = (u ≡ set_acting i (advanced t.plans fits_none a) t) × (new ≡ old)
SpawnsIfNew None process linked i a t old u new = SpawnsNew process linked i a t old u new

abbrev pub TriesSpawn : ℕ → Bool → ℕ → Acting → PidTable → ShardState → PidTable → ShardState → Type 0
TriesSpawn process linked i a t old u new =
    SpawnsIfNew (pid_numbered t.pids process) process linked i a t old u new

abbrev pub RunnerSpawns : ℕ → Bool → ℕ → PidTable → ShardState → PidTable → ShardState → Type 0
RunnerSpawns process linked i t old u new =
    (a : Acting) × (slice_index_or t.actors i a ≡ a) × TriesSpawn process linked i a t old u new

abbrev pub RunnerSpawnsNew : ℕ → Bool → ℕ → PidTable → ShardState → PidTable → ShardState → Type 0
RunnerSpawnsNew process linked i t old u new =
    (a : Acting) × (slice_index_or t.actors i a ≡ a) × SpawnsNew process linked i a t old u new

-- the process a, at place i, does the operation
abbrev pub DoesOperation : Operation → ℕ → Acting → PidTable → ShardState → PidTable → ShardState → Type 0
DoesOperation (Spawn process linked) i a t old u new = TriesSpawn process linked i a t old u new
DoesOperation operation i a t old u new =
    (b : Acting) × Plays t.plans t.pids operation a old b new × (u ≡ set_acting i b t)

-- the process at place i does its next operation
pub record ActsAt (i : ℕ) (t : PidTable) (old : ShardState) (u : PidTable) (new : ShardState) : Type 0 where
  pub within : i < length t.actors
  pub a : Acting
  pub is : slice_index_or t.actors i a ≡ a
  pub acts : DoesOperation (next_of t.plans a) i a t old u new

-- a step --------------------------------------------------------------------------------------

-- so do the first of the table, one after the other
abbrev pub EachActs : ℕ → PidTable → ShardState → PidTable → ShardState → Type 0
EachActs zero t old u new = (u ≡ t) × (new ≡ old)
EachActs (suc count) t old u new =
    (before : PidTable) × (between : ShardState) × EachActs count t old before between × ActsAt count before between u new

-- without those that have ended
abbrev pub living : ShardState → PidTable → PidTable
living d t = record t { actors = filter (λ (a : Acting). lives d a.pid) t.actors }

-- Those that have ended are struck off. Then each of the others does its next operation, in order of birth; one that is
-- born by that stands behind them, and has its first operation in the next step.
abbrev pub EachDoesNext : PidTable → ShardState → PidTable → ShardState → Type 0
EachDoesNext t old u new = EachActs (length (living old t).actors) (living old t) old u new

-- the process at this place does its next operation; or nothing happens, if there is no place
abbrev pub ActsIfAt : Option ℕ → PidTable → ShardState → PidTable → ShardState → Type 0
ActsIfAt None t old u new = (u ≡ t) × (new ≡ old)
ActsIfAt (Some i) t old u new = ActsAt i t old u new

-- Those that have ended are struck off. Then the process p alone does its next operation, if it is one of the others.
abbrev pub OneDoesNext : Pid → PidTable → ShardState → PidTable → ShardState → Type 0
OneDoesNext p t old u new =
    ActsIfAt (position (λ (a : Acting). same_pid a.pid p) (living old t).actors) (living old t) old u new

-- A step of a runner with its desk: so does each of the runner's processes, and nothing is posted or collected.
abbrev pub RunnerDoes : Runner → DeskState → Runner → DeskState → Type 0
RunnerDoes r old s new = EachDoesNext (table r) old.shard (table s) new.shard × HasSameEnds old new
