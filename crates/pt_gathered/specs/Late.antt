-- The processes that ended on a settled node since a place in each of its journals.
use Rattle.std.specs.Prelude.{◌≡◌, ℕ, zero, suc, ◌<◌, Bool, false, true, cond, ◌⊎◌, Option, Some, None, List, []}
use Rattle.std.specs.Prelude.{◌∷◌, ◌++◌, length, slice_index_or, All, Contains}
use Rattle.pt_signal.specs.declared.pid.Pid.{Pid}
use Rattle.pt_signal.specs.declared.signal.Signal.{Signal}
use Rattle.pt_signal.specs.declared.signal.Signal.TheVariants.{LinkExit}
use Rattle.pt_events.specs.declared.event.Event.{Event}
use Rattle.pt_events.specs.declared.event.Event.TheVariants.{Came, Left}
use Rattle.pt_events.specs.declared.event.Stamped.{Stamped}
use Rattle.pt_events.specs.History.{is_ended, life}
use Rattle.pt_events.specs.Journal.{events}
use Rattle.pt_accounts.specs.LifeState.{LifeState}
use Rattle.pt_accounts.specs.DeskLives.{DeskTable, life_in, oldest}
use Rattle.pt_gathered.specs.Gathered.{GatheredState, begins, journals}
use Rattle.pt_gathered.specs.Quiet.{QuietState}
use Rattle.pt_events.specs.Since.{after_oldest}

-- the process has ended on the node
abbrev pub HasEndedOn : GatheredState → Pid → Type 0
HasEndedOn g p = is_ended (life (begins g) (events (journals g p.shard)) p) ≡ true

-- it had ended already by the oldest n events of its desk's journal
abbrev pub HadEndedBy : GatheredState → ℕ → Pid → Type 0
HadEndedBy g n p = is_ended (life (begins g) (events (oldest n (journals g p.shard))) p) ≡ true

-- each of these processes has ended on the node, and has the stamp; each process that has ended there is among them, or
-- had ended already by the oldest events of its desk's journal, as many as its desk's place says
pub record AreEndsSince (g : GatheredState) (places : List ℕ) (stamp : ℕ) (ends : List (Pid × ℕ)) : Type 0 where
  pub each : All (λ (x : Pid × ℕ). (x.0.shard < length g.shards) × HasEndedOn g x.0 × (x.1 ≡ stamp)) ends
  pub all : (p : Pid) → p.shard < length g.shards → HasEndedOn g p
      → HadEndedBy g (slice_index_or places p.shard 0) p ⊎ Contains ends (p, stamp)

-- which they are, exactly ----------------------------------------------------------------------------

-- the process that the event may end: the one that gets an exit signal, or exits
abbrev pub may_end : Event → Option Pid
may_end (Came a b (Signal.Exit r)) = Some b
may_end (Came a b (LinkExit ids r)) = Some b
may_end (Left p r) = Some p
may_end _ = None

abbrev pub is_over : Option LifeState → Bool
is_over None = false
is_over (Some l) = is_ended l.phase

-- this process with the stamp, if the table says that it has ended
abbrev pub late_end : DeskTable → ℕ → Option Pid → List (Pid × ℕ)
late_end t stamp None = []
late_end t stamp (Some p) = cond (is_over (life_in t p)) ((p, stamp) ∷ []) []

-- the processes that the events may have ended, and that have ended, in the order of the events, the newest of which
-- is first
abbrev pub ends_in : DeskTable → ℕ → List Stamped → List (Pid × ℕ)
ends_in t stamp [] = []
ends_in t stamp (s ∷ journal) = ends_in t stamp journal ++ late_end t stamp (may_end s.event)

-- so of the desks below k, in order, each from its place on
abbrev pub ends_below : QuietState → List ℕ → ℕ → ℕ → List (Pid × ℕ)
ends_below q places stamp zero = []
ends_below q places stamp (suc d) =
    ends_below q places stamp d
    ++ ends_in (slice_index_or q.lives d (record { desk = d; slots = []; read = 0 })) stamp
    (after_oldest (slice_index_or places d 0) (journals q.gathered d))

abbrev pub ends_since : QuietState → List ℕ → ℕ → List (Pid × ℕ)
ends_since q places stamp = ends_below q places stamp (length q.gathered.shards)
