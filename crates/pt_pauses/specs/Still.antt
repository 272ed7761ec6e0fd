-- The children of supervisors in a node that is still.
--
-- Everywhere here `past` is what happened on a node before the journals of its desks: [] where nothing is known of it.
use Rattle.std.specs.Prelude.{◌≡◌, ⊤, ℕ, true, false, List, [], ◌∷◌, ◌++◌, Some}
use Rattle.std.specs.Prelude.{◌⊎◌, ◌<◌, length, slice_get, slice_index_or}
use Rattle.pt_signal.specs.declared.pid.Pid.{Pid}
use Rattle.pt_signal.specs.declared.reason.Reason.{Reason}
use Rattle.pt_signal.specs.declared.signal.Signal.{Signal}
use Rattle.pt_events.specs.declared.event.Event.TheVariants.{Came}
use Rattle.pt_events.specs.declared.event.Stamped.{Stamped}
use Rattle.pt_events.specs.History.{Past, Start, state_of, life, alive}
use Rattle.pt_events.specs.Journal.{IsMerge, events}
use Rattle.pt_events.specs.Locality.{JournalsSay}
use Rattle.pt_laws.specs.JournalLaws.{MergeIsThere}
use Rattle.pt_laws.specs.Laws.{MergeLegal}
use Rattle.pt_laws.specs.LinkLaws.{MergeKnown}
use Rattle.pt_laws.specs.MonitorLaws.{MadeOnceOver}
use Rattle.pt_laws.specs.ResumedLaws.{StampsAreNew}
use Rattle.pt_shard.specs.ShardState.{ShardState, lives}
use Rattle.pt_gathered.specs.Gathered.{GatheredState, IsGathered, begins, journals}
use Rattle.pt_gathered.specs.Lawful.{IsQuietNode, LinksStand, WatchesStand}
use Rattle.pt_gathered.specs.Pasts.{GoesOnFrom}
use Rattle.pt_behaviour.specs.declared.behaviour.Next.{Next}
use Rattle.pt_crew.specs.declared.crew.Crew.{Crew}
use Rattle.pt_crew.specs.Upholding.{Upholds}
use Rattle.pt_crew.specs.Crews.{roles, IsIdle}
use Rattle.pt_children.specs.declared.asked.Stage.{Stage}
use Rattle.pt_children.specs.declared.asked.Stage.TheVariants.{Waiting, Until}
use Rattle.pt_children.specs.declared.children.Child.{Child}
use Rattle.pt_children.specs.declared.children.Shutdown.{Shutdown}
use Rattle.pt_supervisor.specs.Ending.{next_at_stage}
use Rattle.pt_children.specs.Hearing.{Standing}
use Rattle.pt_children.specs.Homes.{is_waiting}
use Rattle.pt_supervisor.specs.Supervising.{EndsLast}
use Rattle.pt_children.specs.Families.{has_cut, all_events}
use Rattle.pt_supervisor.specs.Keeping.{PartOf, Keeps}

-- the laws of histories on which the promises on still nodes rest
pub record StillLaws : Type 0 where
  pub say : JournalsSay
  pub there : MergeIsThere
  pub legal : MergeLegal
  pub known : MergeKnown
  pub once : MadeOnceOver
  pub stamps : StampsAreNew

-- as an exit signal `shutdown` of me came to q, q trapped exits
abbrev pub HasTrapped : Start → Past → Pid → Pid → Type 0
HasTrapped start history me q =
    (later : Past) × (before : Past) × (history ≡ later ++ Came me q (Signal.Exit Reason.Shutdown) ∷ before)
    × ((state_of (life start before q)).traps ≡ true)

-- no time ends the wait for the child, as its specification has none, or it is killed at a time
abbrev pub IsSpared : Shutdown → Stage → Type 0
IsSpared shutdown (Waiting m) = shutdown ≡ Shutdown.Infinity
IsSpared shutdown (Until m at) = ⊤
IsSpared shutdown _ = ⊥

-- The supervisor p ends q, the last of its children that are to end, and waits for that. q lives. It was told to end, and
-- trapped that, before the journals of the node or since; and it was given no time, or its time has not come. The last
-- two are said of a past that is all that happened, or of none, and of a child of the supervisor's own desk.
pub record IsEnding (past : Past) (s : Standing) (next : Next) (p q : Pid) (g : GatheredState) (merged : List Stamped)
    : Type 0 where
  pub shutdown : Shutdown
  pub stage : Stage
  pub last : EndsLast q shutdown stage s
  pub waits : next ≡ next_at_stage stage
  pub lives : alive (begins g) (events merged) q ≡ true
  pub trapped : q.shard ≡ p.shard → GoesOnFrom past g ⊎ (past ≡ [])
      → IsSpared shutdown stage × (HasTrapped (begins g) (events merged) p q ⊎ HasTrapped [] past p q)

-- The child has a process that lives, or took its link with the supervisor p away itself.
abbrev pub ChildLives : Past → Child → Pid → ShardState → GatheredState → List Stamped → Type 0
ChildLives past child p d g merged =
    (q : Pid) × (child.pid ≡ Some q)
    × ((alive (begins g) (events merged) q ≡ true) ⊎ (has_cut p q (all_events past d) ≡ true))

-- each child of the supervisor that is to live has a process that lives, or took its link with it away itself; unless the
-- supervisor is ending one that traps exits and lives on
abbrev pub EachLives : Past → Standing → Next → Pid → ShardState → GatheredState → List Stamped → Type 0
EachLives past s next p d g merged =
    (place : ℕ) (child : Child) → slice_get s.children place ≡ Some child → child.wanted ≡ true
    → ChildLives past child p d g merged ⊎ ((q : Pid) × IsEnding past s next p q g merged)

-- The desk of the crew is one of the node. In each merge of the node's journals that is so of each supervisor of the crew
-- that lives.
abbrev pub OfSupervisors : {B : Type 0} → PartOf B → Crew B → ShardState → GatheredState
    → (Standing → Next → Pid → List Stamped → Type 0) → Type 0
OfSupervisors {B} part c d g Is =
    (merged : List Stamped) → IsMerge (journals g) merged → (p : Pid) (b : B) (next : Next) (s : Standing)
    → roles c p ≡ Some (b, next) → part b ≡ Some s → lives d p ≡ true → p.shard ≡ d.number → Is s next p merged

-- Each child that is to live does, of a supervisor that does not wait until the program has started a child on another
-- desk.
abbrev pub ChildrenLive : {B : Type 0} → Past → PartOf B → Crew B → ShardState → GatheredState → Type 0
ChildrenLive past part c d g =
    OfSupervisors part c d g (λ s next p merged. is_waiting s.children ≡ false → EachLives past s next p d g merged)

-- the node is quiet, and links and monitors stand at both ends or at neither
pub record IsStillNode (g : GatheredState) : Type 0 where
  pub quiet : IsQuietNode g
  pub links : LinksStand g
  pub watches : WatchesStand g

-- So it is in a node that is still: where the desk of a crew, whose supervisors uphold that their children are held, is
-- one of a gathered node that is still, and nobody of the crew has anything to do.
abbrev pub QuietChildrenLive : {B : Type 0} → PartOf B → Type 0
QuietChildrenLive {B} part =
    (past : Past) (c : Crew B) (d : ShardState) (g : GatheredState) → IsGathered g → IsStillNode g
    → d.number < length g.shards → d ≡ slice_index_or g.shards d.number d → Upholds (Keeps past part) c d
    → IsIdle c d → ChildrenLive past part c d g
