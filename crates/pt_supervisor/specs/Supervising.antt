-- What a supervisor does with an item, and what it does next.
use Rattle.std.specs.Prelude.{◌≡◌, ◌⊎◌, ℕ, zero, suc, ◌+◌, ◌-◌, ◌^◌, min, ◌<◌, nat_lt, cond, Bool, true, false, List, length}
use Rattle.std.specs.List.{list_all}
use Rattle.std.specs.Prelude.{◌&&◌, not, [], ◌∷◌, ◌++◌, Option, Some, None, MatchBool, Result, Ok, Err, IfOk, is_ok, is_some}
use Rattle.std.specs.Prelude.{slice_get, slice_set}
use Rattle.pt_signal.specs.declared.pid.Pid.{Pid}
use Rattle.pt_signal.specs.declared.ids.Ref.{Ref}
use Rattle.pt_signal.specs.declared.item.Item.{Item}
use Rattle.pt_signal.specs.declared.item.Item.TheVariants.{Exit, Down}
use Rattle.pt_signal.specs.declared.item.Pick.{Pick}
use Rattle.pt_signal.specs.declared.reason.Reason.{Reason}
use Rattle.pt_signal.specs.declared.signal.Signal.{Signal}
use Rattle.pt_events.specs.declared.event.Event.TheVariants.{Said, Flag}
use Rattle.pt_shard.specs.declared.fault.Fault.{Fault}
use Rattle.pt_shard.specs.ShardState.{ShardState, phase_of, state_in}
use Rattle.pt_shard.specs.Known.{knows}
use Rattle.pt_shard.specs.Calls.{Calls}
use Rattle.pt_desk.specs.DeskState.{DeskState}
use Rattle.pt_behaviour.specs.declared.behaviour.Next.{Next}
use Rattle.pt_behaviour.specs.declared.behaviour.Next.TheVariants.{Wait, WaitUntil, Proceed, Running, Stop}
use Rattle.pt_behaviour.specs.declared.births.Role.{Role}
use Rattle.pt_behaviour.specs.declared.births.Births.{Births}
use Rattle.pt_behaviour.specs.Births.{Bore, born}
use Rattle.pt_behaviour.specs.declared.call_fault.CallFault.{CallFault}
use Rattle.pt_behaviour.specs.Telling.{IfKnown, Watches}
use Rattle.pt_behaviour.specs.Upholding.{children_by}
use Rattle.pt_children.specs.declared.asked.Stage.{Stage}
use Rattle.pt_children.specs.declared.asked.Stage.TheVariants.{Gone, Watched, Waiting, Until, Killed}
use Rattle.pt_children.specs.declared.children.Child.{Child}
use Rattle.pt_children.specs.declared.children.Shutdown.{Shutdown}
use Rattle.pt_children.specs.declared.restart.Restart.{Restart}
use Rattle.pt_children.specs.Children.{AreStarted, NoneLives, NoneUnwanted, PermanentAreWanted}
use Rattle.pt_children.specs.Children.{is_missing, last_alive}
use Rattle.pt_children.specs.Ending.{bids, stage_of, stage_told}
use Rattle.pt_supervisor.specs.Ending.{is_noproc, next_at_stage, next_tried}
use Rattle.pt_supervisor.specs.declared.supervisor.Supervisor.{Supervisor}
use Rattle.pt_children.specs.Limits.{moment}
use Rattle.pt_children.specs.declared.restart.Strategy.{Strategy}
use Rattle.pt_children.specs.Homes.{AllHere, asked_child, is_here, is_waiting, place_coming}
use Rattle.pt_supervisor.specs.Joining.{MeetsIn}
use Rattle.pt_children.specs.Trying.{goes_past, is_startable, started_child, unstarted_child}
use Rattle.pt_children.specs.Hearing.{Standing, at_stage, first_heeded, gone_on, heard, monitor_closed}
use Rattle.pt_supervisor.specs.Hearing.{program_of, standing}

-- the program's `Start`: it before, the supervisor, the place, what it answers, and it afterwards
abbrev pub StartsOf : Type 0 → Type 0 → Type 1
StartsOf S B = S → Pid → ℕ → Result (B × Next) Fault → S → Type 0

-- a supervisor that starts its children, and its desk
pub record Nursery (S B : Type 0) : Type 0 where
  pub start : S
  pub children : List Child
  -- how many it has started
  pub started : ℕ
  pub desk : ShardState
  -- who was born and waits to enter the crew
  pub born : List (Role B)

-- the child c at a place was started as the one that was born, or not, while the desk's clock was so far
abbrev pub with_pid : ℕ → ℕ → Child → Result Pid Fault → List Child → List Child
with_pid clock place c (Ok p) children = slice_set children place (started_child p c)
with_pid clock place c (Err f) children = slice_set children place (unstarted_child clock f c)

-- and one more was started
abbrev pub with_one : Result Pid Fault → ℕ → ℕ
with_one (Ok p) n = min (n + 1) (2 ^ 64 - 1)
with_one (Err f) n = n

-- What the program answers as the child c is to be started: its behaviour, with which it is born on the same desk, linked
-- with its supervisor, if the desk does not refuse that; or a refusal of its own.
abbrev pub BearsAs : {S B : Type 0} → Pid → ℕ → Child → Result (B × Next) Fault → Nursery S B → Nursery S B → Type 0
BearsAs me place c (Err f) old new =
    (new.children ≡ slice_set old.children place (unstarted_child old.desk.clock f c)) × (new.desk ≡ old.desk)
    × (new.born ≡ old.born) × (new.started ≡ old.started)
BearsAs me place c (Ok (b, first)) old new =
    (born : Result Pid Fault) × Bore me true b first old.desk old.born born new.desk new.born
    × (new.children ≡ with_pid new.desk.clock place c born old.children) × (new.started ≡ with_one born old.started)
    × IfOk born (λ p. p.shard ≡ me.shard)

-- the child at a place is started on its supervisor's desk, or is not
abbrev pub SpawnsChildAt : {S B : Type 0} → StartsOf S B → Pid → ℕ → Child → Nursery S B → Nursery S B → Type 0
SpawnsChildAt {S} {B} starts me place c old new =
    (begins : Result (B × Next) Fault) × starts old.start me place begins new.start × BearsAs me place c begins old new

-- one that is to be started on another desk: the program is asked, and nothing else has changed
abbrev pub AsksProgramFor : {S B : Type 0} → ℕ → Child → Nursery S B → Nursery S B → Type 0
AsksProgramFor place c old new = new ≡ record old { children = slice_set old.children place (asked_child c) }

abbrev pub TriesAt : {S B : Type 0} → StartsOf S B → Pid → ℕ → Child → Nursery S B → Nursery S B → Type 0
TriesAt starts me place c old new =
    MatchBool (is_here c.home) (SpawnsChildAt starts me place c old new) (AsksProgramFor place c old new)

-- so it is if it is due; whether those behind it are started
abbrev pub StartsAt : {S B : Type 0} → StartsOf S B → Pid → Strategy → ℕ → Option Child → Nursery S B → Bool → Nursery S B
    → Type 0
StartsAt starts me strategy place None old answer new = ⊥
StartsAt {S} {B} starts me strategy place (Some c) old answer new =
    (answer ≡ goes_past strategy (slice_get new.children place))
    × MatchBool (is_startable c) (TriesAt starts me place c old new) (new ≡ old)

abbrev pub StartsOne : {S B : Type 0} → StartsOf S B → Pid → Strategy → ℕ → Nursery S B → Bool → Nursery S B → Type 0
StartsOne starts me strategy place old answer new =
    StartsAt starts me strategy place (slice_get old.children place) old answer new

-- at most the child at a place is changed
pub record SetsAt (place : ℕ) (old new : List Child) : Type 0 where
  pub count : length new ≡ length old
  pub permanent : PermanentAreWanted old → PermanentAreWanted new
  pub unwanted : NoneUnwanted old → NoneUnwanted new

-- those at the first places, in order, and none of them has the others wait
abbrev pub StartsFirst : {S B : Type 0} → StartsOf S B → Pid → Strategy → ℕ → Nursery S B → Nursery S B → Type 0
StartsFirst starts me strategy zero old new = new ≡ old
StartsFirst {S} {B} starts me strategy (suc n) old new =
    (mid : Nursery S B) × StartsFirst starts me strategy n old mid × StartsOne starts me strategy n mid true new

-- so many children, in order, up to the first one that has the others wait
abbrev pub StartsUpTo : {S B : Type 0} → StartsOf S B → Pid → Strategy → ℕ → Nursery S B → Bool → Nursery S B → Type 0
StartsUpTo starts me strategy count old true new = StartsFirst starts me strategy count old new
StartsUpTo {S} {B} starts me strategy count old false new =
    (place : ℕ) × (place < count) × (mid : Nursery S B) × StartsFirst starts me strategy place old mid
    × StartsOne starts me strategy place mid false new

-- whether none is missing afterwards
abbrev pub StartsAll : {S B : Type 0} → StartsOf S B → Pid → Strategy → ℕ → Nursery S B → Bool → Nursery S B → Type 0
StartsAll starts me strategy count old answer new =
    (through : Bool) × StartsUpTo starts me strategy count old through new
    × (answer ≡ (through && list_all (λ c. not (is_missing c)) new.children))

-- a supervisor, its desk, and who was born
pub record SupervisorScene (S B : Type 0) : Type 0 where
  pub start : S
  pub standing : Standing
  pub desk : DeskState
  pub born : List (Role B)

abbrev pub supervisor_scene : {S B : Type 0} → Supervisor S → DeskState → Births B → SupervisorScene S B
supervisor_scene s d births = record { start = program_of s; standing = standing s; desk = d; born = born births }

abbrev pub nursery : {S B : Type 0} → SupervisorScene S B → Nursery S B
nursery s = record {
  start = s.start;
  children = s.standing.children;
  started = s.standing.started;
  desk = s.desk.shard;
  born = s.born;
}

-- It tells one to end, by an exit signal. Where that was not refused, it has come to this stage with that one, and waits.
-- Else it tries again.
pub record TellsToEnd (me p : Pid) (reason : Reason) (stage : Stage) (old : Standing) (d : DeskState) (next : Next)
    (new : Standing) (e : DeskState) : Type 0 where
  pub result : Result (Unit {0}) CallFault
  pub signal : IfKnown (knows d.shard p)
      (λ r. Calls me (Some (Said me p (Signal.Exit reason))) (tt {0}) d.shard r e.shard) d result e
  pub next_is : next ≡ cond (is_ok result) (next_at_stage stage) Proceed
  pub new_is : new ≡ cond (is_ok result) (at_stage p stage old) old

-- One that it monitors now it tells to end. One that has ended before is gone. Where the call was refused for another
-- reason, it tries again.
abbrev pub after_watching : Pid → ℕ → Pid → Shutdown → Result Ref CallFault → Standing → DeskState → Next → Standing → DeskState
    → Type 0
after_watching me now p shutdown (Ok m) old mid next new e =
    TellsToEnd me p (bids shutdown) (stage_told shutdown m now) (at_stage p (Watched m) old) mid next new e
after_watching me now p shutdown (Err f) old mid next new e =
    (next ≡ Proceed) × (new ≡ cond (is_noproc f) (at_stage p Gone old) old) × (e ≡ mid)

-- it monitors one that it is to end, and then tells it to
pub record WatchesChild (me : Pid) (now : ℕ) (p : Pid) (shutdown : Shutdown) (old : Standing) (d : DeskState) (next : Next)
    (new : Standing) (e : DeskState) : Type 0 where
  pub result : Result Ref CallFault
  pub mid : DeskState
  pub monitor : Watches me p d result mid
  pub goes : after_watching me now p shutdown result old mid next new e

-- One that it does not monitor yet is monitored first. One that was told to end within a time is killed once its time has
-- come, and then has no further time. Before that it is told nothing, and has the time that it had.
abbrev pub EndsChild : Pid → ℕ → Pid → Shutdown → Option Stage → Standing → DeskState → Next → Standing → DeskState → Type 0
EndsChild me now p shutdown None old d next new e = WatchesChild me now p shutdown old d next new e
EndsChild me now p shutdown (Some Gone) old d next new e = WatchesChild me now p shutdown old d next new e
EndsChild me now p shutdown (Some (Watched m)) old d next new e =
    TellsToEnd me p (bids shutdown) (stage_told shutdown m now) old d next new e
EndsChild me now p shutdown (Some (Waiting m)) old d next new e =
    TellsToEnd me p (bids shutdown) (stage_told shutdown m now) old d next new e
EndsChild me now p shutdown (Some (Until m at)) old d next new e =
    MatchBool (nat_lt now at) ((next ≡ WaitUntil (Pick.DownOf m) at) × (new ≡ old) × (e ≡ d))
    (TellsToEnd me p Reason.Kill (Killed m) old d next new e)
EndsChild me now p shutdown (Some (Killed m)) old d next new e = TellsToEnd me p Reason.Kill (Killed m) old d next new e

-- what it is once it has started those that are due, and none is missing, or some are
abbrev pub settled : Bool → Standing → Standing
settled answer s = cond answer s (first_heeded s)

-- nobody is to end any more: it ends, if it is to, or starts who is due; where some are missing still, it gives up if a first
-- start has failed, and else tries again, behind the items that are there
abbrev pub SupervisorSettles : {S B : Type 0} → StartsOf S B → Pid → Option Reason → SupervisorScene S B → Next → SupervisorScene S B → Type 0
SupervisorSettles starts me (Some reason) old next new = (next ≡ Stop reason) × (new ≡ old)
SupervisorSettles starts me None old next new =
    (answer : Bool)
    × StartsAll starts me old.standing.strategy (length old.standing.children) (nursery old) answer (nursery new)
    × (next ≡ cond answer (Wait Pick.Any) (next_tried (phase_of new.desk.shard me)))
    × (new.standing ≡ settled answer (record (old.standing) {
      children = new.standing.children;
      started = new.standing.started;
      ending = length old.standing.children;
      asked = None;
    }))

abbrev pub AdvancesAs : {S B : Type 0} → StartsOf S B → Pid → ℕ → Option (Pid × Shutdown) → SupervisorScene S B → Next
    → SupervisorScene S B → Type 0
AdvancesAs starts me now (Some (p, shutdown)) old next new =
    EndsChild me now p shutdown (stage_of old.standing.asked p) old.standing old.desk next new.standing new.desk
    × (new.start ≡ old.start) × (new.born ≡ old.born)
AdvancesAs starts me now None old next new = SupervisorSettles starts me old.standing.stopping old next new

-- the last of those that are to end is told so, or killed; where none of them lives, it goes on
abbrev pub Advances : {S B : Type 0} → StartsOf S B → Pid → ℕ → SupervisorScene S B → Next → SupervisorScene S B → Type 0
Advances starts me now old next new =
    AdvancesAs starts me now (last_alive old.standing.children old.standing.ending (length old.standing.children)) old next
    new

-- It sees to an item at a time: of an end it hears, by an exit or by the DOWN of its monitor. Where it goes on without an
-- item it sets its trap, hears of the child that it found to have ended, and tries again to start one that failed; whether
-- nothing was refused.
abbrev pub SupervisorAttends : Pid → ℕ → Option Item → Standing → DeskState → Bool → Standing → DeskState → Type 0
SupervisorAttends me time (Some (Exit from reason)) old d answer new e =
    (answer ≡ true) × (new ≡ heard (moment old.timed d.shard.clock time) from reason old) × (e ≡ d)
SupervisorAttends me time (Some (Down m from reason)) old d answer new e =
    (answer ≡ true) × (new ≡ heard (moment old.timed d.shard.clock time) from reason (monitor_closed m old)) × (e ≡ d)
SupervisorAttends me time (Some _) old d answer new e = (answer ≡ true) × (new ≡ old) × (e ≡ d)
SupervisorAttends me time None old d answer new e =
    (result : Result Bool Fault)
    × Calls me (Some (Flag me true)) (state_in d.shard me).traps d.shard result e.shard × (answer ≡ is_ok result)
    × (new ≡ cond answer (gone_on (moment old.timed e.shard.clock time) old) old)

-- while a child is started on another desk nobody else is started or ended, and it does not end
abbrev pub GoesForward : {S B : Type 0} → StartsOf S B → Pid → ℕ → Option ℕ → SupervisorScene S B → Next → SupervisorScene S B
    → Type 0
GoesForward starts me now None old next new = Advances starts me now old next new
GoesForward starts me now (Some place) old next new =
    MeetsIn me place (slice_get old.standing.children place) old.standing old.desk next new.standing new.desk
    × (new.start ≡ old.start) × (new.born ≡ old.born)

abbrev pub after_attending : {S B : Type 0} → StartsOf S B → Pid → ℕ → Bool → SupervisorScene S B → Next
    → SupervisorScene S B → Type 0
after_attending starts me now true mid next new =
    GoesForward starts me now (place_coming mid.standing.children) mid next new
after_attending starts me now false mid next new = (next ≡ Proceed) × (new ≡ mid)

-- so it handles an item, or none, at a time
pub record SupervisorHandles {S B : Type 0} (starts : StartsOf S B) (me : Pid) (time : ℕ) (item : Option Item)
    (old : SupervisorScene S B) (next : Next) (new : SupervisorScene S B) : Type 0 where
  pub mid : SupervisorScene S B
  pub answer : Bool
  pub attends : SupervisorAttends me time item old.standing old.desk answer mid.standing mid.desk
  pub same : (mid.start ≡ old.start) × (mid.born ≡ old.born)
  pub goes : after_attending starts me time answer mid next new

-- What it waits for tells how its children stand: for any item where each that is to live was started, none that is not
-- wanted lives, and none is to end, or where one is being started on another desk; for the DOWN of one, where that is the last of those that are to end, and it was told so, or killed; until a time,
-- where it has to end by then; for any item, and no longer than there is one, where a start failed. It ends where none lives.
abbrev pub EndsLast : Pid → Shutdown → Stage → Standing → Type 0
EndsLast p shutdown stage s =
    (last_alive s.children s.ending (length s.children) ≡ Some (p, shutdown))
    × (s.asked ≡ Some (record { pid = p; stage = stage }))

-- it has nothing to do
abbrev pub HasNothingToDo : Standing → Type 0
HasNothingToDo s =
    AreStarted s.children (length s.children) × (s.ending ≡ length s.children) × (s.stopping ≡ None) × (s.asked ≡ None)
    × NoneUnwanted s.children

abbrev pub WaitsFor : Pick → Standing → Type 0
WaitsFor Pick.Any s = MatchBool (is_waiting s.children) (Unit {0}) (HasNothingToDo s)
WaitsFor (Pick.DownOf m) s =
    (p : Pid) × (shutdown : Shutdown)
    × (((shutdown ≡ Shutdown.Infinity) × EndsLast p shutdown (Waiting m) s) ⊎ EndsLast p shutdown (Killed m) s)
WaitsFor _ s = ⊥

abbrev pub WaitsForUntil : Pick → ℕ → Standing → Type 0
WaitsForUntil (Pick.DownOf m) at s = (p : Pid) × (shutdown : Shutdown) × EndsLast p shutdown (Until m at) s
WaitsForUntil Pick.Any at s = at ≡ 0
WaitsForUntil _ at s = ⊥

abbrev pub Supervises : Next → Standing → Type 0
Supervises (Wait pick) s = WaitsFor pick s
Supervises (WaitUntil pick at) s = WaitsForUntil pick at s
Supervises Proceed s = Unit {0}
Supervises Running s = ⊥
Supervises (Stop reason) s = (s.stopping ≡ Some reason) × NoneLives s.children

-- no end of which a supervisor hears makes that a permanent child is not to live
abbrev pub StaysWanted : Type 0
StaysWanted =
    (now : ℕ) (from : Pid) (reason : Reason) (s : Standing) → PermanentAreWanted s.children
    → PermanentAreWanted (heard now from reason s).children

-- so where it waits for any item, and no child is being started on another desk, each of its permanent children lives, by
-- all that it has heard
abbrev pub PermanentLive : Type 0
PermanentLive =
    (s : Standing) → Supervises (Wait Pick.Any) s → is_waiting s.children ≡ false → PermanentAreWanted s.children
    → (place : ℕ) (c : Child) → slice_get s.children place ≡ Some c → c.restart ≡ Restart.Permanent
    → is_some c.pid ≡ true

-- none is being started there where a supervisor spawns all its children
abbrev pub HereAwaitsNobody : Type 0
HereAwaitsNobody = (children : List Child) → AllHere children → is_waiting children ≡ false

-- it counts one more for each child, up to the greatest number
abbrev pub counted_with : List Pid → ℕ → ℕ
counted_with [] n = n
counted_with (p ∷ more) n = min (counted_with more n + 1) (2 ^ 64 - 1)

-- it has counted so many, and counts each child that me bears on its desk
pub record CountsBirths (me : Pid) (old : ℕ) (d : ShardState) (new : ℕ) (e : ShardState) : Type 0 where
  pub more : List Pid
  pub borne : children_by me e.journal ≡ more ++ children_by me d.journal
  pub counted : new ≡ counted_with more old
