-- What a runner knows of the processes that wait, by the events of the desk's journal that it read.
use Rattle.std.specs.Prelude.{◌≡◌, ◌⊎◌, ℕ, ◌<◌, ◌≤◌, Bool, false, true, List, ◌++◌, length, slice_get, slice_index_or}
use Rattle.std.specs.Prelude.{slice_set, leb, cond, not, ◌&&◌, ◌||◌, ◌==◌, Option, Some, None}
use Rattle.std.specs.List.{All, list_all, list_any}
use Rattle.pt_signal.specs.declared.pid.Pid.{Pid}
use Rattle.pt_signal.specs.declared.item.Item.{Item}
use Rattle.pt_signal.specs.declared.item.Pick.{Pick}
use Rattle.pt_signal.specs.Values.{fits}
use Rattle.pt_events.specs.declared.event.Event.{Event}
use Rattle.pt_events.specs.declared.event.Event.TheVariants.{Came, Left}
use Rattle.pt_events.specs.declared.event.Stamped.{Stamped}
use Rattle.pt_shard.specs.Calls.{first_match}
use Rattle.pt_shard.specs.ShardState.{ShardState, lives, state_in}
use Rattle.pt_desk.specs.DeskState.{DeskState, HasSameEnds}
use Rattle.pt_workers.specs.Waking.{came_in}
use Rattle.pt_script.specs.Plans.{Plan}
use Rattle.pt_script.specs.declared.values.Operation.{Operation}
use Rattle.pt_script.specs.declared.values.Operation.TheVariants.{Receive}
use Rattle.pt_script.specs.declared.values.Pattern.{Pattern}
use Rattle.pt_runner.specs.Acting.{Acting, OneDoesNext, RunnerDoes, acting, next_of, pick_meant, table}
use Rattle.pt_runner.specs.declared.runner.Actor.{Actor}
use Rattle.pt_runner.specs.declared.runner.Runner.{Runner}
use Rattle.pt_events.specs.Since.{after_oldest}

-- its next operation is a receive, and no item in its mailbox fits
pub record FindsNothing (plans : List Plan) (pids : List (Option Pid)) (a : Acting) (d : ShardState) : Type 0 where
  pub pattern : Pattern
  pub pick : Pick
  pub next : next_of plans a ≡ Receive pattern
  pub picks : pick_meant pids a.references pattern ≡ Some pick
  pub alive : lives d a.pid ≡ true
  pub nothing : first_match d a.pid pick ≡ None

-- it finds nothing, unless something came to it from that place of the journal on
pub record WaitsSince (plans : List Plan) (pids : List (Option Pid)) (a : Acting) (w : ℕ) (d : ShardState)
    : Type 0 where
  pub within : w ≤ length d.journal
  pub finds : came_in a.pid (after_oldest w d.journal) ≡ false → FindsNothing plans pids a d

-- so does a process, where it is marked as waiting from a place on
abbrev pub IsTrueOf : List Plan → List (Option Pid) → ShardState → Actor → Type 0
IsTrueOf plans pids d a = (w : ℕ) → a.waits ≡ Some w → WaitsSince plans pids (acting a) w d

abbrev pub IsUnmarked : Actor → Type 0
IsUnmarked a = a.waits ≡ None

-- whoever is not marked at its slot from a place on had nothing come to it there
abbrev pub IsNoted : List ℕ → List Stamped → Type 0
IsNoted came seen =
    (p : Pid) (n w : ℕ) → slice_get came p.slot ≡ Some n → n ≤ w → came_in p (after_oldest w seen) ≡ false

-- what was read of a journal, what was noted of that, and that each process waits as it is marked
pub record KnowsOf (plans : List Plan) (pids : List (Option Pid)) (actors : List Actor) (came : List ℕ) (read : ℕ)
    (d : ShardState) : Type 0 where
  pub more : List Stamped
  pub seen : List Stamped
  pub journal : d.journal ≡ more ++ seen
  pub counted : length seen ≡ read
  pub noted : IsNoted came seen
  pub waits : All (IsTrueOf plans pids d) actors

-- what a runner has in its notes is true of the desk
abbrev pub RunnerKnows : Runner → ShardState → Type 0
RunnerKnows r d = KnowsOf r.script.now.processes r.pids.items r.actors.items r.came.items r.read d

-- and it has read the whole journal
abbrev pub IsAbreast : Runner → ShardState → Type 0
IsAbreast r d = RunnerKnows r d × (r.read ≡ length d.journal)

-- it has read nothing, and lets each of its processes try its receive
pub record IsFresh (r : Runner) : Type 0 where
  pub unread : r.read ≡ 0
  pub unmarked : All IsUnmarked r.actors.items

-- What a step begins with: what the runner knows is true, or it knows nothing, or it has read more than the journal has,
-- as that of a desk which goes on with an empty one. Then it forgets what it knows.
abbrev pub RunnerAttends : Runner → ShardState → Type 0
RunnerAttends r d = IsFresh r ⊎ (length d.journal < r.read) ⊎ RunnerKnows r d

-- A step of a runner that attends its desk: each of its processes does its next operation, and what the runner then
-- knows is true, and stays so however the desk goes on.
abbrev pub RunnerSteps : Runner → DeskState → Runner → DeskState → Type 0
RunnerSteps r old s new = RunnerAttends r old.shard → RunnerDoes r old s new × RunnerKnows s new.shard

-- The same of the next operation of the process p alone.
abbrev pub RunnerStepsOne : Pid → Runner → DeskState → Runner → DeskState → Type 0
RunnerStepsOne p r old s new =
    RunnerAttends r old.shard
    → OneDoesNext p (table r) old.shard (table s) new.shard × HasSameEnds old new × RunnerKnows s new.shard

-- the steps of the code ----------------------------------------------------------------------

abbrev pub is_before : Option ℕ → Option ℕ → Bool
is_before (Some last) (Some w) = leb last w
is_before _ _ = false

-- it waits, and nothing came to its slot since
abbrev pub sleeps : List ℕ → Actor → Bool
sleeps came a = is_before (slice_get came a.pid.slot) a.waits

-- all was read, and each process has ended, or sleeps
abbrev pub rests : List ℕ → ShardState → Actor → Bool
rests came d a = sleeps came a || not (lives d a.pid)

abbrev pub idle_runner : Runner → ShardState → Bool
idle_runner r d = (r.read == length d.journal) && list_all (rests r.came.items d) r.actors.items

-- a process has ended, or its next operation is a receive, and no item in its mailbox fits
abbrev pub ActorRests : List Plan → List (Option Pid) → ShardState → Actor → Type 0
ActorRests plans pids d a = lives d a.pid ≡ true → FindsNothing plans pids (acting a) d

abbrev pub AllRest : Runner → ShardState → Type 0
AllRest r d = All (ActorRests r.script.now.processes r.pids.items d) r.actors.items

-- none of these items fits
abbrev pub none_fits : List Item → Option Pick → Bool
none_fits items None = false
none_fits items (Some k) = not (list_any (fits k) items)

-- an operation of a process is a receive for which none of these fits
abbrev pub takes_none : List (Option Pid) → List Item → Acting → Operation → Bool
takes_none pids items a (Receive pattern) = none_fits items (pick_meant pids a.references pattern)
takes_none pids items a _ = false

-- a process has ended, or its next operation is such a receive, of its mailbox
abbrev pub is_out_of_work : List Plan → List (Option Pid) → ShardState → Actor → Bool
is_out_of_work plans pids d a =
    cond (lives d a.pid) (takes_none pids (state_in d a.pid).waiting (acting a) (next_of plans (acting a))) true

-- the place behind an event is noted at the slot of the process to which a signal came, or which left
abbrev pub marked : Event → ℕ → List ℕ → List ℕ
marked (Came a b x) n came = slice_set came b.slot n
marked (Left p r) n came = slice_set came p.slot n
marked _ n came = came

abbrev pub HasSameRest : Runner → Runner → Type 0
HasSameRest old new = (new.script ≡ old.script) × (new.read ≡ old.read) × (new.came ≡ old.came)

-- so is each runner over the desk at its place
pub record RunnersIdle (runners : List Runner) (desks : List DeskState) : Type 0 where
  pub count : length runners ≡ length desks
  pub each : (d : ℕ) (r : Runner) (x : DeskState) → d < length desks
      → idle_runner (slice_index_or runners d r) (slice_index_or desks d x).shard ≡ true
