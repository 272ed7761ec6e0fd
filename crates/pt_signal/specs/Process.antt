-- One process alone: what it holds, what a signal does to it while it lives, and what it owes at its end.
use Rattle.std.specs.Prelude.{Bool, true, false, cond, not, ◌&&◌, Option, Some, None, List, [], ◌∷◌, ◌++◌, map, filter}
use Rattle.std.specs.Prelude.{option_to_list}
use Rattle.std.specs.Map.{lookup, remove_entry, set_value}
use Rattle.std.specs.List.{list_any}
use Rattle.pt_signal.specs.declared.pid.Pid.{Pid}
use Rattle.pt_signal.specs.declared.ids.Ref.{Ref}
use Rattle.pt_signal.specs.declared.ids.LinkId.{LinkId}
use Rattle.pt_signal.specs.declared.ids.Ids.{Ids}
use Rattle.pt_signal.specs.declared.item.Item.{Item}
use Rattle.pt_signal.specs.declared.item.Item.TheVariants.{User}
use Rattle.pt_signal.specs.declared.reason.Reason.{Reason}
use Rattle.pt_signal.specs.declared.reason.Reason.TheVariants.{Normal, Kill, Killed, Noproc}
use Rattle.pt_signal.specs.declared.signal.Signal.{Signal}
use Rattle.pt_signal.specs.declared.signal.Signal.TheVariants.{Message, Link, Unlink, LinkExit, Monitor, Demonitor}
use Rattle.pt_signal.specs.declared.signal.Signal.TheVariants.{AliveAsk, AliveSay}
use Rattle.pt_signal.specs.Values.{same_pid, same_ref, same_link, without_first}

-- what a live process holds, each list in order of entry
pub record ProcessState : Type 0 where
  pub waiting : List Item
  pub links : List (Pid × Ids)
  pub watching : List (Ref × Pid)
  pub kept : List (Ref × Pid)
  pub traps : Bool

abbrev pub fresh : ProcessState
fresh = record { waiting = []; links = []; watching = []; kept = []; traps = false }

-- ids of an entry ------------------------------------------------------------

abbrev pub one_id : LinkId → Ids
one_id i = record { one = i; two = None }

abbrev pub id_list : Ids → List LinkId
id_list ids = ids.one ∷ option_to_list ids.two

abbrev pub has_id : Ids → LinkId → Bool
has_id ids i = list_any (same_link i) (id_list ids)

-- they have an id in common
abbrev pub share_id : Ids → Ids → Bool
share_id ids named = list_any (has_id named) (id_list ids)

abbrev pub or_else : {A : Type 0} → Option A → A → A
or_else None a = a
or_else (Some b) a = b

abbrev pub second_id : Option LinkId → LinkId → Option LinkId
second_id None i = Some i
second_id (Some j) i = Some j

-- one more id, unless there are two
abbrev pub add_id : Ids → LinkId → Ids
add_id ids i = record { one = ids.one; two = second_id ids.two i }

abbrev pub ids_of : List LinkId → Option Ids
ids_of [] = None
ids_of (i ∷ []) = Some (one_id i)
ids_of (i ∷ j ∷ rest) = Some (record { one = i; two = Some j })

-- the ids that are not named, if any are left
abbrev pub without_ids : Ids → Ids → Option Ids
without_ids named ids = ids_of (filter (λ i. not (has_id named i)) (id_list ids))

-- link entries -----------------------------------------------------------------

abbrev pub held : List (Pid × Ids) → Pid → Option Ids
held links q = lookup (same_pid q) links

abbrev pub enter_at : Option Ids → Pid → LinkId → List (Pid × Ids) → List (Pid × Ids)
enter_at None q i links = links ++ (q, one_id i) ∷ []
enter_at (Some ids) q i links = set_value (same_pid q) links (add_id ids i)

-- the id enters at q
abbrev pub enter : Pid → LinkId → List (Pid × Ids) → List (Pid × Ids)
enter q i links = enter_at (held links q) q i links

abbrev pub leave_at : Option Ids → Pid → List (Pid × Ids) → List (Pid × Ids)
leave_at None q links = remove_entry (same_pid q) links
leave_at (Some left) q links = set_value (same_pid q) links left

abbrev pub cut_at : Option Ids → Pid → Ids → List (Pid × Ids) → List (Pid × Ids)
cut_at None q named links = links
cut_at (Some ids) q named links = leave_at (without_ids named ids) q links

-- the named ids leave at q
abbrev pub cut : Pid → Ids → List (Pid × Ids) → List (Pid × Ids)
cut q named links = cut_at (held links q) q named links

-- one of the ids is held
abbrev pub holds_any : Option Ids → Ids → Bool
holds_any None named = false
holds_any (Some ids) named = share_id ids named

-- kept watches -------------------------------------------------------------------

abbrev pub same_watch : Ref → Pid → Ref × Pid → Bool
same_watch m w k = same_ref m k.0 && same_pid w k.1

abbrev pub keep : Ref → Pid → List (Ref × Pid) → List (Ref × Pid)
keep m w kept = cond (list_any (same_watch m w) kept) kept (kept ++ (m, w) ∷ [])

-- the verdict on an exit signal --------------------------------------------------

pub data Verdict : Type 0 where
  drops : Verdict
  queues : Item → Verdict
  ends : Reason → Verdict

-- by a link or not; whether the process traps; whether it comes from itself; the sender; the reason
abbrev pub verdict : Bool → Bool → Bool → Pid → Reason → Verdict
verdict false traps own from Kill = ends Killed
verdict by_link true own from r = queues (Item.Exit from r)
verdict by_link false false from Normal = drops
verdict by_link false own from r = ends r

-- a signal on its way ---------------------------------------------------------------

pub record Sent : Type 0 where
  pub from : Pid
  pub to : Pid
  pub signal : Signal

abbrev pub sent : Pid → Pid → Signal → Sent
sent a b x = record { from = a; to = b; signal = x }

-- what a signal does to a live process --------------------------------------------

-- the state afterwards, the item that was queued, if any, what goes back, if anything, and the reason of its
-- end, if it ends
pub record Handled : Type 0 where
  pub state : ProcessState
  pub items : List Item
  pub answer : List Sent
  pub ending : Option Reason

abbrev pub stays : ProcessState → Handled
stays s = record { state = s; items = []; answer = []; ending = None }

abbrev pub queued : Item → ProcessState → Handled
queued item s = record {
  state = record s { waiting = s.waiting ++ item ∷ [] };
  items = item ∷ [];
  answer = [];
  ending = None;
}

abbrev pub answers : Sent → ProcessState → Handled
answers back s = record { state = s; items = []; answer = back ∷ []; ending = None }

abbrev pub obey : Verdict → ProcessState → Handled
obey drops s = stays s
obey (queues item) s = queued item s
obey (ends r) s = record { state = s; items = []; answer = []; ending = Some r }

abbrev pub link_exit : Bool → Pid → ProcessState → Pid → Reason → Handled
link_exit false me s from r = stays s
link_exit true me s from r =
    obey (verdict true s.traps (same_pid from me) from r) (record s { links = remove_entry (same_pid from) s.links })

abbrev pub down : Option Pid → ProcessState → Pid → Ref → Reason → Handled
down None s from m r = stays s
down (Some target) s from m r =
    queued (Item.Down m from r) (record s { watching = remove_entry (same_ref m) s.watching })

abbrev pub handle : Pid → ProcessState → Pid → Signal → Handled
handle me s from (Message b) = queued (User from b) s
handle me s from (Link i) = stays (record s { links = enter from i s.links })
handle me s from (Unlink ids) = stays (record s { links = cut from ids s.links })
handle me s from (Signal.Exit r) = obey (verdict false s.traps (same_pid from me) from r) s
handle me s from (LinkExit ids r) = link_exit (holds_any (held s.links from) ids) me s from r
handle me s from (Monitor m) = stays (record s { kept = keep m from s.kept })
handle me s from (Demonitor m) = stays (record s { kept = without_first (same_watch m from) s.kept })
handle me s from (Signal.Down m r) = down (lookup (same_ref m) s.watching) s from m r
handle me s from (AliveAsk m) = answers (sent me from (AliveSay m true)) s
handle me s from (AliveSay m x) = queued (Item.Alive m from x) s

-- what saying a signal does to the sayer
abbrev pub say : ProcessState → Pid → Signal → ProcessState
say s to (Link i) = record s { links = enter to i s.links }
say s to (Unlink ids) = record s { links = cut to ids s.links }
say s to (Monitor m) = record s { watching = s.watching ++ (m, to) ∷ [] }
say s to (Demonitor m) = record s { watching = remove_entry (same_ref m) s.watching }
say s to _ = s

-- what goes out -------------------------------------------------------------------

-- what a process owes at its end
abbrev pub estate : Pid → ProcessState → Reason → List Sent
estate me s r =
    map (λ e. sent me e.0 (LinkExit e.1 r)) s.links
    ++ map (λ k. sent me k.1 (Signal.Down k.0 r)) s.kept
    ++ map (λ m. sent me m.1 (Demonitor m.0)) s.watching

-- how a signal is answered that comes to a process which is not alive
abbrev pub answer_of_dead : Signal → Option Signal
answer_of_dead (Link i) = Some (LinkExit (one_id i) Noproc)
answer_of_dead (Monitor m) = Some (Signal.Down m Noproc)
answer_of_dead (AliveAsk m) = Some (AliveSay m false)
answer_of_dead _ = None

abbrev pub bounce : Pid → Pid → Signal → List Sent
bounce me from x = map (sent me from) (option_to_list (answer_of_dead x))
