-- How a supervisor's children are on its desk.
--
-- Everywhere here `past` is what happened on a desk, or on its node, before the desk's journal: [] where nothing is known
-- of it.
use Rattle.std.specs.Prelude.{◌≡◌, ℕ, ◌&&◌, Bool, true, false, is_some, List, [], ◌++◌, Option, Some, None}
use Rattle.std.specs.List.{list_any}
use Rattle.std.specs.Prelude.{◌⊎◌, slice_get}
use Rattle.pt_signal.specs.declared.pid.Pid.{Pid}
use Rattle.pt_signal.specs.declared.ids.Ref.{Ref}
use Rattle.pt_signal.specs.declared.item.Item.{Item}
use Rattle.pt_signal.specs.declared.reason.Reason.{Reason}
use Rattle.pt_signal.specs.declared.signal.Signal.{Signal}
use Rattle.pt_signal.specs.declared.signal.Signal.TheVariants.{Unlink, LinkExit}
use Rattle.pt_signal.specs.Values.{same_pid}
use Rattle.pt_signal.specs.Process.{ProcessState, held}
use Rattle.pt_events.specs.declared.event.Event.{Event}
use Rattle.pt_events.specs.declared.event.Event.TheVariants.{Said, Came, Refused}
use Rattle.pt_events.specs.History.{Past, Start, at_start, is_unborn, state_of}
use Rattle.pt_events.specs.Journal.{events}
use Rattle.pt_shard.specs.ShardState.{ShardState, phase_of, state_in, lives}
use Rattle.pt_laws.specs.Watch.{is_down_item, is_open}
use Rattle.pt_children.specs.declared.asked.Asked.{Asked}
use Rattle.pt_children.specs.declared.children.Child.{Child}
use Rattle.pt_children.specs.Ending.{gone_at, monitor_of, told_in}

-- the pid of the child at a place, if one lives there by all that its supervisor has heard
abbrev pub pid_of_child : Option Child → Option Pid
pid_of_child None = None
pid_of_child (Some c) = c.pid

abbrev pub child_at : List Child → ℕ → Option Pid
child_at children place = pid_of_child (slice_get children place)

-- the item tells of the end of q
abbrev pub is_end_of : Pid → Item → Bool
is_end_of q (Item.Exit from r) = same_pid q from
is_end_of q (Item.Down m from r) = same_pid q from
is_end_of q _ = false

-- q takes its link with me away
abbrev pub is_cut : Pid → Pid → Event → Bool
is_cut me q (Came a b (Unlink ids)) = same_pid q a && same_pid me b
is_cut me q _ = false

-- an unlink of q came to me
abbrev pub has_cut : Pid → Pid → Past → Bool
has_cut me q past = list_any (is_cut me q) past

-- all that happened on a desk: before its journal, which is past, and since then
abbrev pub all_events : Past → ShardState → Past
all_events past d = events d.journal ++ past

-- a link with q is held, or the end of q waits to be heard
abbrev pub IsTied : ProcessState → Pid → Type 0
IsTied s q = (is_some (held s.links q) ≡ true) ⊎ (list_any (is_end_of q) s.waiting ≡ true)

-- so it is with a child of me, unless the child took the link away itself
abbrev pub IsHeld : Past → Pid → Pid → ShardState → Type 0
IsHeld past me q d = IsTied (state_in d me) q ⊎ (has_cut me q (all_events past d) ≡ true)

-- Children that live, by all that their supervisor me has heard: each that is of its desk was born, each stands in one
-- place alone, and is held unless me is to stop.
pub record Family (past : Past) (children : List Child) (stopping : Option Reason) (me : Pid) (d : ShardState) : Type 0 where
  pub born : (place : ℕ) (q : Pid) → child_at children place ≡ Some q → q.shard ≡ me.shard → is_unborn (phase_of d q) ≡ false
  pub apart : (i j : ℕ) (q : Pid) → child_at children i ≡ Some q → child_at children j ≡ Some q → i ≡ j
  pub held : stopping ≡ None → (place : ℕ) (q : Pid) → child_at children place ≡ Some q → IsHeld past me q d

-- news of the end of q came to me: by a link that the two had, by a monitor, by an exit signal that q sent itself, or as
-- a call was refused
abbrev pub tells_end : Pid → Pid → Event → Bool
tells_end me q (Came a b (LinkExit ids r)) = same_pid q a && same_pid me b
tells_end me q (Came a b (Signal.Down m r)) = same_pid q a && same_pid me b
tells_end me q (Came a b (Signal.Exit r)) = same_pid q a && same_pid me b
tells_end me q (Refused a b) = same_pid me a && same_pid q b
tells_end me q _ = false

abbrev pub has_told : Pid → Pid → Past → Bool
has_told me q past = list_any (tells_end me q) past

-- each end that waited for me as the journal began had been told before
abbrev pub WereTold : Past → Pid → Start → Type 0
WereTold past me start =
    (q : Pid) → list_any (is_end_of q) (state_of (at_start start me)).waiting ≡ true → has_told me q past ≡ true

abbrev pub IsPlaced : List Child → Pid → Type 0
IsPlaced children q = (place : ℕ) × (child_at children place ≡ Some q)

-- the monitor m of q is open, or its DOWN waits to be heard
abbrev pub IsWatched : ProcessState → Ref → Pid → Type 0
IsWatched s m q = (list_any (is_open m q) s.watching ≡ true) ⊎ (list_any (is_down_item m) s.waiting ≡ true)

-- two reasons by which a supervisor tells a child to end
abbrev pub is_bid : Reason → Reason → Bool
is_bid Reason.Shutdown Reason.Shutdown = true
is_bid Reason.Kill Reason.Kill = true
is_bid r s = false

-- me says to q that it is to end
abbrev pub bids_to : Pid → Pid → Reason → Event → Bool
bids_to me q r (Said a b (Signal.Exit s)) = same_pid me a && same_pid q b && is_bid r s
bids_to me q r _ = false

abbrev pub has_bid_to : Pid → Pid → Reason → Past → Bool
has_bid_to me q r past = list_any (bids_to me q r) past

-- The one that me ends, as far as it has come. It is monitored, where it has a monitor. It was told to end, where it is
-- waited for. And it has ended, where it was found so.
pub record IsAsked (past : Past) (a : Asked) (me : Pid) (d : ShardState) : Type 0 where
  pub watched : (m : Ref) → monitor_of a.stage ≡ Some m → IsWatched (state_in d me) m a.pid
  pub told : (r : Reason) → told_in a.stage ≡ Some r → has_bid_to me a.pid r (all_events past d) ≡ true
  pub gone : gone_at a.stage a.pid ≡ Some a.pid → has_told me a.pid (all_events past d) ≡ true

-- so it is where that one stands in a place
abbrev pub AreAsked : Past → List Child → Option Asked → Pid → ShardState → Type 0
AreAsked past children asked me d =
    (a : Asked) → asked ≡ Some a → IsPlaced children a.pid → IsAsked past a me d
