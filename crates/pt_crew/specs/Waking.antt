-- Who of a crew has something to do, and who of it stands in the queue.
use Rattle.std.specs.Prelude.{◌≡◌, ℕ, ◌≤◌, nat_le, cond, Bool, true, false, ◌&&◌, ◌||◌, List, length, ◌++◌, Option, Some, None}
use Rattle.std.specs.List.{IsDistinct, list_any}
use Rattle.std.specs.Option.{option_map}
use Rattle.pt_timers.specs.declared.Timer.{Timer}
use Rattle.pt_timers.specs.State.{TimersState, body_of}
use Rattle.pt_signal.specs.declared.pid.Pid.{Pid}
use Rattle.pt_signal.specs.declared.item.Pick.TheVariants.{Any}
use Rattle.pt_signal.specs.Values.{same_pid}
use Rattle.pt_events.specs.declared.event.Stamped.{Stamped}
use Rattle.pt_events.specs.History.{Phase, is_unborn, is_ended}
use Rattle.pt_shard.specs.ShardState.{ShardState, phase_of}
use Rattle.pt_workers.specs.Waking.{came_in, need_not_wait}
use Rattle.pt_behaviour.specs.declared.behaviour.Next.{Next}
use Rattle.pt_behaviour.specs.declared.behaviour.Next.TheVariants.{Wait, WaitUntil, Proceed, Running, Stop}
use Rattle.pt_behaviour.specs.Behaving.{limit_of}
use Rattle.pt_crew.specs.declared.crew.Member.{Member}

-- A process in this phase has something to do: it need not wait, as an item that its pick fits stands in its mailbox, or
-- it has ended and is to leave its crew; or it is to proceed or to end.
abbrev pub has_work : Next → Phase → Bool
has_work (Wait k) f = need_not_wait k f
has_work (WaitUntil k at) f = need_not_wait k f
has_work Proceed f = true
has_work Running f = is_ended f
has_work (Stop r) f = true

-- whether it waits until a time that has come
abbrev pub wait_is_over : Next → ℕ → Bool
wait_is_over (WaitUntil k at) time = nat_le at time
wait_is_over _ time = false

-- it waits without an end, and its mailbox was empty
abbrev pub rests_on : Bool → Next → Bool
rests_on clear (Wait k) = clear
rests_on clear _ = false

abbrev pub in_queue : Pid → List Pid → Bool
in_queue p queue = list_any (same_pid p) queue

-- the members by their pids
abbrev pub Members : Type 0 → Type 0
Members B = Pid → Option (Member B)

-- it has something to do, or would have if it waited for any item and its mailbox was empty when the outside was told of it
abbrev pub has_task : {B : Type 0} → Member B → Phase → Bool
has_task m f = (m.clear && need_not_wait Any f) || has_work m.next f

-- it is marked as one that stands in the queue
abbrev pub is_queued : {B : Type 0} → Member B → Bool
is_queued m = m.queued

-- whoever is marked stands in the queue, and whoever stands in it is marked, and there once
pub record IsQueue {B : Type 0} (members : Members B) (queue : List Pid) : Type 0 where
  pub listed : (p : Pid) (m : Member B) → members p ≡ Some m → m.queued ≡ true → in_queue p queue ≡ true
  pub marked : (p : Pid) → in_queue p queue ≡ true → (m : Member B) × (members p ≡ Some m) × (m.queued ≡ true)
  pub once : IsDistinct same_pid queue

-- Of the journal, `seen` was read and `more` was not. Whoever has something to do is marked, unless a signal that was
-- not read came to it, or its own end was not read.
pub record Knows {B : Type 0} (members : Members B) (queue : List Pid) (read : ℕ) (d : ShardState) : Type 0 where
  pub more : List Stamped
  pub seen : List Stamped
  pub journal : d.journal ≡ more ++ seen
  pub counted : length seen ≡ read
  pub queued : IsQueue members queue
  pub born : (p : Pid) (m : Member B) → members p ≡ Some m → is_unborn (phase_of d p) ≡ false
  pub awake : (p : Pid) (m : Member B) → members p ≡ Some m → has_task m (phase_of d p) ≡ true
      → came_in p more ≡ false → m.queued ≡ true

-- no lost wake-up: each member that has something to do stands in the queue
abbrev pub IsAwake : {B : Type 0} → Members B → List Pid → ShardState → Type 0
IsAwake {B} members queue d =
    (p : Pid) (m : Member B) → members p ≡ Some m → has_work m.next (phase_of d p) ≡ true → in_queue p queue ≡ true

-- the timer of a member
abbrev pub timer_of : {B : Type 0} → Option (Member B) → Option Timer
timer_of None = None
timer_of (Some m) = m.timer

-- the time until which a member waits that does not stand in the queue
abbrev pub sleeps_until : {B : Type 0} → Member B → Option ℕ
sleeps_until m = cond m.queued None (limit_of m.next)

-- The timers that are pending are those of the members, each of its own one; and a member has one, of the time until
-- which it waits, where it waits until a time and does not stand in the queue.
pub record AreTimed {B : Type 0} (members : Members B) (timers : TimersState Pid) : Type 0 where
  pub own : (p : Pid) (t : Timer) → timer_of (members p) ≡ Some t → body_of timers t ≡ Some p
  pub owned : (p : Pid) (t : Timer) → body_of timers t ≡ Some p → timer_of (members p) ≡ Some t
  pub timed : (p : Pid) (m : Member B) → members p ≡ Some m → option_map (λ t. t.at) m.timer ≡ sleeps_until m

-- each member that waits until a time which has come stands in the queue
abbrev pub AreRung : {B : Type 0} → ℕ → Members B → List Pid → Type 0
AreRung {B} time members queue =
    (p : Pid) (m : Member B) (at : ℕ) → members p ≡ Some m → limit_of m.next ≡ Some at → at ≤ time
    → in_queue p queue ≡ true
