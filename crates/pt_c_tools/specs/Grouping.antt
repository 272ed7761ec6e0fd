-- What the calls of groups answer C.
use Rattle.std.specs.Prelude.{◌≡◌, ◌⊎◌, ℕ, Bool, true, false, Option, Result, Ok, Err}
use Rattle.pt_signal.specs.declared.pid.Pid.{Pid}
use Rattle.pt_signal.specs.declared.ids.Ref.{Ref}
use Rattle.pt_names.specs.declared.group.Group.{Group}
use Rattle.pt_names.specs.declared.group.JoinError.{JoinError}
use Rattle.pt_names.specs.declared.group.JoinError.TheVariants.{Full, Memory}
use Rattle.pt_names.specs.declared.group.Left.{Left}
use Rattle.pt_names.specs.declared.group.Left.TheVariants.{NotThere, Stays, Last}
use Rattle.pt_names.specs.Groups.{GroupsState}
use Rattle.pt_names.specs.Grouping.{AreNone, JoinsGroup, LeavesAll, LeavesGroup}
use Rattle.pt_c_values.specs.Filling.{IfEmpty}
use Rattle.pt_c_values.specs.Places.{HandlePlace, ShowsCode, full, nothing_there}
use Rattle.pt_c_values.specs.Codes.{filled}
use Rattle.pt_c_values.specs.Crossing.{ref_out}
use Rattle.pt_c_values.specs.declared.types.PtRef.{PtRef}

-- the group with this number
abbrev pub group_in : ℕ → Group
group_in n = record { 0 = n }

abbrev pub join_code : Result Ref JoinError → ℕ
join_code (Ok m) = 0
join_code (Err Full) = 1
join_code (Err Memory) = 2

abbrev pub joined_out : PtRef → Result Ref JoinError → PtRef
joined_out before (Ok m) = ref_out m
joined_out before (Err e) = before

abbrev pub JoinsByCode : Group → Pid → Ref → ℕ → PtRef → PtRef → GroupsState → GroupsState → Type 0
JoinsByCode g p m code before after old new =
    (r : Result Ref JoinError) × (code ≡ join_code r) × (after ≡ joined_out before r) × JoinsGroup g p m old r new

abbrev pub left_code : Left → ℕ
left_code NotThere = nothing_there
left_code Stays = 0
left_code (Last m) = 0

abbrev pub last_out : Bool → Left → Bool
last_out before NotThere = before
last_out before Stays = false
last_out before (Last m) = true

-- the monitor is written with the last place alone
abbrev pub left_monitor : PtRef → Left → PtRef
left_monitor before (Last m) = ref_out m
left_monitor before left = before

abbrev pub LeavesByCode : Group → Pid → ℕ → Bool → Bool → PtRef → PtRef → GroupsState → GroupsState → Type 0
LeavesByCode g p code was_last is_last before after old new =
    (l : Left) × (code ≡ left_code l) × (is_last ≡ last_out was_last l) × (after ≡ left_monitor before l)
    × LeavesGroup g p old l new

abbrev pub ForgetsMember : Pid → ℕ → PtRef → PtRef → GroupsState → GroupsState → Type 0
ForgetsMember p code before after old new =
    (m : Option Ref) × ShowsCode code before after ref_out m × LeavesAll p old m new

-- the handle has no groups yet, and gets some that are empty; or there was no memory, or it had some already, and it is as
-- it was
abbrev pub OpensGroups : ℕ → HandlePlace GroupsState → HandlePlace GroupsState → Type 0
OpensGroups code before after =
    IfEmpty before
    (((code ≡ 0) × (s : GroupsState) × AreNone s × (after ≡ full s)) ⊎ ((code ≡ 2) × (after ≡ before)))
    ((code ≡ filled) × (after ≡ before))
