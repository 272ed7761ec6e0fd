-- What each call of groups does.
use Rattle.std.specs.Prelude.{◌≡◌, ◌⊎◌, ℕ, ◌+◌, ◌-◌, ◌^◌, ◌<◌, false, [], length, Option, Some, None, unwrap_or, Result, Ok, Err}
use Rattle.std.specs.declared.alloc.AllocError.{AllocError}
use Rattle.pt_signal.specs.declared.pid.Pid.{Pid}
use Rattle.pt_signal.specs.declared.ids.Ref.{Ref}
use Rattle.pt_signal.specs.Values.{same_pid}
use Rattle.pt_names.specs.declared.group.Group.{Group}
use Rattle.pt_names.specs.declared.group.JoinError.{JoinError}
use Rattle.pt_names.specs.declared.group.JoinError.TheVariants.{Full, Memory}
use Rattle.pt_names.specs.declared.group.Left.{Left}
use Rattle.pt_names.specs.declared.group.Left.TheVariants.{NotThere, Stays, Last}
use Rattle.pt_names.specs.Groups.{GroupsState, PlacesMember, counts_at, times_of, watched_of, monitor_kept, groups_of}

-- no process is in a group
abbrev pub AreNone : GroupsState → Type 0
AreNone s = (s.placed ≡ []) × (s.watched ≡ [])

-- the process is this often in this group, and has this monitor, or none; all else is as it was: the other processes of the
-- group, the other groups, and the monitors and the groups of the other processes
pub record GroupsChange (g : Group) (p : Pid) (n : ℕ) (m : Option Ref) (old new : GroupsState) : Type 0 where
  pub places : PlacesMember g p n old.placed new.placed
  pub monitor : monitor_kept new p ≡ m
  pub processes : (q : Pid) → same_pid p q ≡ false → watched_of new q ≡ watched_of old q

-- as often as a process can be in a group
abbrev pub most_times : ℕ
most_times = 2 ^ 64 - 1

-- what a call that finds memory does, and one that finds none
abbrev pub EntersGroup : Group → Pid → Ref → GroupsState → Result Ref AllocError → GroupsState → Type 0
EntersGroup g p m old (Ok kept) new =
    (kept ≡ unwrap_or (monitor_kept old p) m) × GroupsChange g p (times_of old g p + 1) (Some kept) old new
EntersGroup g p m old (Err e) new = (times_of old g p ≡ 0) × (new ≡ old)

-- the process is in the group once more; its monitor is the one that it had, or else this one
abbrev pub JoinsGroup : Group → Pid → Ref → GroupsState → Result Ref JoinError → GroupsState → Type 0
JoinsGroup g p m old (Ok kept) new =
    (times_of old g p < most_times) × EntersGroup g p m old (Ok kept) new
JoinsGroup g p m old (Err Full) new = (times_of old g p ≡ most_times) × (new ≡ old)
JoinsGroup g p m old (Err Memory) new = (times_of old g p ≡ 0) × (new ≡ old)

-- what a leave returns: the process is not there; it is there more than once, or in more than one group; or this is its last
-- place, and then its monitor is returned
abbrev pub Leaving : Group → Pid → GroupsState → Left → Type 0
Leaving g p s NotThere = times_of s g p ≡ 0
Leaving g p s Stays = (0 < times_of s g p) × ((1 < times_of s g p) ⊎ (1 < length (groups_of s p)))
Leaving g p s (Last m) = (times_of s g p ≡ 1) × (length (groups_of s p) ≡ 1) × (monitor_kept s p ≡ Some m)

-- the process is in the group once less, and has its monitor until its last place
abbrev pub LeavesGroup : Group → Pid → GroupsState → Left → GroupsState → Type 0
LeavesGroup g p old NotThere new = Leaving g p old NotThere × (new ≡ old)
LeavesGroup g p old Stays new =
    Leaving g p old Stays × GroupsChange g p (times_of old g p - 1) (monitor_kept old p) old new
LeavesGroup g p old (Last m) new = Leaving g p old (Last m) × GroupsChange g p 0 None old new

-- the process is in no group and has no monitor; all else is as it was: each group that it was not in, and how often each
-- other process is in each group, its monitor and its groups
pub record IsInNone (p : Pid) (old new : GroupsState) : Type 0 where
  pub gone : (g : Group) → times_of new g p ≡ 0
  pub monitor : monitor_kept new p ≡ None
  pub times : (g : Group) (q : Pid) → same_pid p q ≡ false → times_of new g q ≡ times_of old g q
  pub groups : (g : Group) → times_of old g p ≡ 0 → counts_at new.placed g ≡ counts_at old.placed g
  pub processes : (q : Pid) → same_pid p q ≡ false → watched_of new q ≡ watched_of old q

-- the monitor of a process that was in a group is returned
abbrev pub LeavesAll : Pid → GroupsState → Option Ref → GroupsState → Type 0
LeavesAll p old (Some m) new = (monitor_kept old p ≡ Some m) × IsInNone p old new
LeavesAll p old None new = (monitor_kept old p ≡ None) × (new ≡ old)
