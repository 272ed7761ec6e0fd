-- Groups of processes as their callers see them.
use Rattle.std.specs.Prelude.{◌≡◌, ℕ, ◌==◌, nat_lt, Bool, true, false, cond, List, [], Option, Some, unwrap_or}
use Rattle.std.specs.List.{list_any}
use Rattle.std.specs.Map.{lookup, keys_of}
use Rattle.std.specs.Option.{option_map, option_map_or}
use Rattle.pt_signal.specs.declared.pid.Pid.{Pid}
use Rattle.pt_signal.specs.declared.ids.Ref.{Ref}
use Rattle.pt_signal.specs.Values.{same_pid}
use Rattle.pt_names.specs.declared.group.Group.{Group}

abbrev pub same_group : Group → Group → Bool
same_group g h = g.0 == h.0

-- each process of a group, with how often it is in it
abbrev pub Counts : Type 0
Counts = List (Pid × ℕ)

-- how often the process is there
abbrev pub count_in : Counts → Pid → ℕ
count_in counts p = unwrap_or (lookup (same_pid p) counts) 0

-- who is counted is there once at least
abbrev pub AreThereOnce : Counts → Type 0
AreThereOnce counts = (p : Pid) → lookup (same_pid p) counts ≡ Some 0 → ⊥

-- the process is this often there, and each other one as often as before
abbrev pub SetsCount : Pid → ℕ → Counts → Counts → Type 0
SetsCount p n old new = (q : Pid) → count_in new q ≡ cond (same_pid p q) n (count_in old q)

-- each group that has a member, with its processes
abbrev pub Placed : Type 0
Placed = List (Group × Counts)

abbrev pub counts_at : Placed → Group → Option Counts
counts_at placed g = lookup (same_group g) placed

abbrev pub counts_in : Placed → Group → Counts
counts_in placed g = unwrap_or (counts_at placed g) []

abbrev pub times_in : Placed → Group → Pid → ℕ
times_in placed g p = count_in (counts_in placed g) p

-- no group is listed that has no member
abbrev pub NoneIsEmpty : Placed → Type 0
NoneIsEmpty placed = (g : Group) → counts_at placed g ≡ Some [] → ⊥

-- the process is this often in the group, each other one as often as before, and the other groups are as they were
pub record PlacesMember (g : Group) (p : Pid) (n : ℕ) (old new : Placed) : Type 0 where
  pub times : SetsCount p n (counts_in old g) (counts_in new g)
  pub others : (h : Group) → same_group g h ≡ false → counts_at new h ≡ counts_at old h

-- the process is in none of these groups, and all else is as it was
pub record Clears (groups : List Group) (p : Pid) (old new : Placed) : Type 0 where
  pub cleared : (g : Group) → list_any (same_group g) groups ≡ true → SetsCount p 0 (counts_in old g) (counts_in new g)
  pub others : (g : Group) → list_any (same_group g) groups ≡ false → counts_at new g ≡ counts_at old g

-- the monitor that reports the exit of a process, and the groups that it is in, each once
pub record Watched : Type 0 where
  pub monitor : Ref
  pub groups : List Group

pub record GroupsState : Type 0 where
  pub placed : Placed
  -- each process that is in a group
  pub watched : List (Pid × Watched)

-- how often the process is in the group
abbrev pub times_of : GroupsState → Group → Pid → ℕ
times_of s g p = times_in s.placed g p

-- the processes of the group, each once
abbrev pub members_of : GroupsState → Group → List Pid
members_of s g = keys_of (counts_in s.placed g)

abbrev pub watched_of : GroupsState → Pid → Option Watched
watched_of s p = lookup (same_pid p) s.watched

-- the monitor that reports the exit of the process
abbrev pub monitor_kept : GroupsState → Pid → Option Ref
monitor_kept s p = option_map (λ w. w.monitor) (watched_of s p)

-- the groups that the process is in, each once
abbrev pub groups_of : GroupsState → Pid → List Group
groups_of s p = option_map_or (λ w. w.groups) (watched_of s p) []

abbrev pub is_in : GroupsState → Group → Pid → Bool
is_in s g p = nat_lt 0 (times_of s g p)

-- The two lists agree, so a process has a monitor exactly if it is in a group.
pub record AreKept (s : GroupsState) : Type 0 where
  -- a process has a group in its list exactly if it is in it
  pub agree : (g : Group) (p : Pid) → list_any (same_group g) (groups_of s p) ≡ is_in s g p
  -- who has a monitor has a group
  pub watched : (p : Pid) (w : Watched) → watched_of s p ≡ Some w → w.groups ≡ [] → ⊥
