-- A node that goes on epoch behind epoch, with its crews, and what its sink gets.
use Rattle.std.specs.Prelude.{◌≡◌, ℕ, ◌<◌, List, length, map, reverse, slice_index_or, Some, true}
use Rattle.std.specs.Prelude.{Result, Ok, Err}
use Rattle.pt_signal.specs.declared.pid.Pid.{Pid}
use Rattle.pt_events.specs.declared.event.Stamped.{Stamped}
use Rattle.pt_events.specs.History.{IsLegal}
use Rattle.pt_events.specs.Journal.{IsMerge, events}
use Rattle.pt_laws.specs.Load.{IsQuiet}
use Rattle.pt_shard.specs.ShardState.{ShardState}
use Rattle.pt_gathered.specs.Gathered.{GatheredState, IsGathered, begins, journals}
use Rattle.pt_gathered.specs.Quiet.{QuietState}
use Rattle.pt_gathered.specs.Settling.{Settles, NothingLeft}
use Rattle.pt_desk.specs.DeskState.{DeskState}
use Rattle.pt_workers.specs.Desks.{desk_kept}
use Rattle.pt_node.specs.Gathering.{Gathers}
use Rattle.pt_node.specs.Pasts.{IsOneHistory}
use Rattle.pt_node.specs.Resuming.{Resumes}
use Rattle.pt_crew.specs.declared.crew.Crew.{Crew}
use Rattle.pt_crew.specs.declared.crew.Member.{Member}
use Rattle.pt_crew.specs.Visiting.{AreSame}
use Rattle.pt_crew.specs.Crews.{Attends, AreBorn, HasRoom, KeepsRest, members, queue, roles}
use Rattle.pt_crew.specs.Stepping.{QueueIsLonger}
use Rattle.pt_crew.specs.Waking.{is_queued}
use Rattle.pt_epochs.specs.declared.ending.Unhanded.{Unhanded}
use Rattle.pt_epochs.specs.declared.ending.Unhanded.TheVariants.{Unread, Refused}
use Rattle.pt_epochs.specs.declared.halted.Halted.{Halted}
use Rattle.pt_epochs.specs.declared.halted.Halted.TheVariants.{Running, Turning, Gathering, Settling}
use Rattle.pt_epochs.specs.declared.halted.Halted.TheVariants.{Reading, Taking, Resuming, Beginning}

-- the history of a settled node, which is legal and quiet over what was before it
pub record IsSettledHistory (g : GatheredState) (history : List Stamped) : Type 0 where
  pub merge : IsMerge (journals g) (reverse history)
  pub legal : IsLegal (begins g) (events (reverse history))
  pub quiet : IsQuiet (begins g) (events (reverse history))

-- crews that begin again ------------------------------------------------------------

-- each of its processes is to be visited, over a desk on which they all were born; all else stays
pub record CrewBegins {B : Type 0} (old new : Crew B) : Type 0 where
  pub attends : (d e : ShardState) → Attends old d → AreBorn (roles old) e → Attends new e
  pub all : (p : Pid) (m : Member B) → members new p ≡ Some m → is_queued m ≡ true
  pub roles : AreSame (roles old) (roles new)
  pub longer : QueueIsLonger (queue old) (queue new)
  pub rest : KeepsRest old new

-- some of its processes may be to be visited, and all else stays
pub record CrewMayBegin {B : Type 0} (old new : Crew B) : Type 0 where
  pub roles : AreSame (roles old) (roles new)
  pub longer : QueueIsLonger (queue old) (queue new)
  pub rest : KeepsRest old new

-- that holds of each crew and the one at its place
pub record EachCrew {B : Type 0} (Does : Crew B → Crew B → Type 0) (old new : List (Crew B)) : Type 0 where
  pub count : length new ≡ length old
  pub each : (d : ℕ) (c : Crew B) → d < length old → Does (slice_index_or old d c) (slice_index_or new d c)

abbrev pub AllHaveRoom : {B : Type 0} → List (Crew B) → Type 0
AllHaveRoom {B} crews = (d : ℕ) (c : Crew B) → d < length crews → HasRoom (slice_index_or crews d c)

-- each crew attends the desk at its place
pub record AllAttend {B : Type 0} (crews : List (Crew B)) (shards : List ShardState) : Type 0 where
  pub count : length crews ≡ length shards
  pub each : (d : ℕ) (c : Crew B) (x : ShardState) → d < length shards
      → Attends (slice_index_or crews d c) (slice_index_or shards d x)

-- the end of an epoch ---------------------------------------------------------------

-- a settled node is resumed, and its crews begin again
pub record ResumesCrews {B : Type 0} (g : GatheredState) (crews : List (Crew B)) (desks : List DeskState)
    (later : List (Crew B)) : Type 0 where
  pub resumes : Resumes g desks
  pub begins : EachCrew CrewBegins crews later

-- where the crews begin again on a node that was resumed, and one that had no room could not
abbrev pub HaltsBeginning : {B : Type 0} → List DeskState → List (Crew B) → Halted → List (Crew B) → Type 0
HaltsBeginning desks crews (Beginning node) later =
    (node ≡ desks) × (¬ AllHaveRoom crews) × EachCrew CrewMayBegin crews later
HaltsBeginning desks crews _ later = ⊥

-- where the node was not resumed, or else there
abbrev pub HaltsResuming : {B : Type 0} → QuietState → List (Crew B) → Halted → List (Crew B) → Type 0
HaltsResuming q crews (Resuming back) later = (back ≡ q) × (later ≡ crews)
HaltsResuming q crews halted later =
    (desks : List DeskState) × Resumes q.gathered desks × HaltsBeginning desks crews halted later

-- so a call answers that lets the crews begin again, and one that resumes the node before
abbrev pub AllBeginAs : {B : Type 0} → List DeskState → List (Crew B) → Result (List DeskState) Halted → List (Crew B)
    → Type 0
AllBeginAs node crews (Ok desks) later = (desks ≡ node) × EachCrew CrewBegins crews later
AllBeginAs node crews (Err halted) later = HaltsBeginning node crews halted later

abbrev pub ResumesAllAs : {B : Type 0} → QuietState → List (Crew B) → Result (List DeskState) Halted → List (Crew B)
    → Type 0
ResumesAllAs q crews (Ok desks) later = ResumesCrews q.gathered crews desks later
ResumesAllAs q crews (Err halted) later = HaltsResuming q crews halted later

-- the history of the node was handed to the sink; or it was not read, or the sink did not take it
abbrev pub Hands : {S : Type 0} → (S → List Stamped → S → Type 0) → (S → List Stamped → S → Type 0) → GatheredState → S
    → Result (Unit {0}) Unhanded → S → Type 0
Hands Takes Refuses g sink (Ok _) after = (history : List Stamped) × IsSettledHistory g history × Takes sink history after
Hands Takes Refuses g sink (Err Unread) after = after ≡ sink
Hands Takes Refuses g sink (Err Refused) after =
    (history : List Stamped) × IsSettledHistory g history × Refuses sink history after

module _ {B S : Type 0} (Takes Refuses : S → List Stamped → S → Type 0) where
  -- its history goes to the sink, and then it is resumed
  pub record HandsOver (history : List Stamped) (g : GatheredState) (crews : List (Crew B)) (sink : S)
      (desks : List DeskState) (later : List (Crew B)) (after : S) : Type 0 where
    pub node : IsGathered g
    pub is : IsSettledHistory g history
    pub takes : Takes sink history after
    pub resumed : ResumesCrews g crews desks later

  -- a gathered node is settled, and then that is done
  pub record SettlesOver (history : List Stamped) (g : GatheredState) (crews : List (Crew B)) (sink : S)
      (desks : List DeskState) (later : List (Crew B)) (after : S) : Type 0 where
    pub node : IsGathered g
    pub settled : GatheredState
    pub settles : Settles g settled
    pub nothing_left : NothingLeft settled
    -- where the node was still, nothing has happened meanwhile
    pub same : NothingLeft g → settled ≡ g
    pub over : HandsOver history settled crews sink desks later after

  -- an epoch ends: the node is gathered, and then all that is done; with all that was before it is one history
  pub record EndsEpoch (history : List Stamped) (old : List DeskState) (crews : List (Crew B)) (sink : S)
      (desks : List DeskState) (later : List (Crew B)) (after : S) : Type 0 where
    pub gathered : GatheredState
    pub gathers : Gathers old gathered
    pub over : SettlesOver history gathered crews sink desks later after
    pub whole : IsOneHistory history old desks

  -- where it halts: nothing is lost, and what was done stays ---------------------------

  abbrev pub HaltsHanding : QuietState → List (Crew B) → S → Halted → List (Crew B) → S → Type 0
  HaltsHanding q crews sink (Reading back) later after = (back ≡ q) × (later ≡ crews) × (after ≡ sink)
  HaltsHanding q crews sink (Taking back) later after =
      (back ≡ q) × (later ≡ crews)
      × ((history : List Stamped) × IsSettledHistory q.gathered history × Refuses sink history after)
  HaltsHanding q crews sink halted later after =
      (history : List Stamped) × IsSettledHistory q.gathered history × Takes sink history after
      × HaltsResuming q crews halted later

  abbrev pub HaltsSettling : GatheredState → List (Crew B) → S → Halted → List (Crew B) → S → Type 0
  HaltsSettling g crews sink (Settling back) later after =
      IsGathered g × IsGathered back.gathered × Settles g back.gathered × (later ≡ crews) × (after ≡ sink)
  HaltsSettling g crews sink halted later after =
      (q : QuietState) × IsGathered g × IsGathered q.gathered × Settles g q.gathered × NothingLeft q.gathered
      × HaltsHanding q crews sink halted later after

  abbrev pub HaltsEpoch : List DeskState → List (Crew B) → S → Halted → List (Crew B) → S → Type 0
  HaltsEpoch old crews sink (Gathering back) later after =
      (map desk_kept back.node ≡ map desk_kept old) × (later ≡ crews) × (after ≡ sink)
  HaltsEpoch old crews sink halted later after =
      (g : GatheredState) × Gathers old g × HaltsSettling g crews sink halted later after

  -- so calls answer that do the rest from there on
  abbrev pub HandsAs : QuietState → List (Crew B) → S → Result (List DeskState) Halted → List (Crew B) → S → Type 0
  HandsAs q crews sink (Ok desks) later after =
      (history : List Stamped) × HandsOver history q.gathered crews sink desks later after
  HandsAs q crews sink (Err halted) later after = HaltsHanding q crews sink halted later after

  abbrev pub SettlesAs : GatheredState → List (Crew B) → S → Result (List DeskState) Halted → List (Crew B) → S → Type 0
  SettlesAs g crews sink (Ok desks) later after =
      (history : List Stamped) × SettlesOver history g crews sink desks later after
  SettlesAs g crews sink (Err halted) later after = HaltsSettling g crews sink halted later after

  abbrev pub EndsAs : List DeskState → List (Crew B) → S → Result (List DeskState) Halted → List (Crew B) → S → Type 0
  EndsAs old crews sink (Ok desks) later after =
      (history : List Stamped) × EndsEpoch history old crews sink desks later after
  EndsAs old crews sink (Err halted) later after = HaltsEpoch old crews sink halted later after

  -- and so the call answers that goes on where an epoch halted
  abbrev pub GoesOnAs : Halted → List (Crew B) → S → Result (List DeskState) Halted → List (Crew B) → S → Type 0
  GoesOnAs (Running node refused) crews sink result later after =
      (result ≡ Ok node) × (later ≡ crews) × (after ≡ sink)
  GoesOnAs (Turning node stopped) crews sink result later after =
      (result ≡ Ok node) × (later ≡ crews) × (after ≡ sink)
  GoesOnAs (Gathering back) crews sink result later after = EndsAs back.node crews sink result later after
  GoesOnAs (Settling back) crews sink result later after = SettlesAs back.gathered crews sink result later after
  GoesOnAs (Reading q) crews sink result later after = HandsAs q crews sink result later after
  GoesOnAs (Taking q) crews sink result later after = HandsAs q crews sink result later after
  GoesOnAs (Resuming q) crews sink result later after = ResumesAllAs q crews result later × (after ≡ sink)
  GoesOnAs (Beginning node) crews sink result later after = AllBeginAs node crews result later × (after ≡ sink)
