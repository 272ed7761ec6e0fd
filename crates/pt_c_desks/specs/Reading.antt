-- What is read of a desk and of a settled node.
use Rattle.std.specs.Prelude.{◌≡◌, ℕ, ◌^◌, ◌-◌, Bool, cond, min, is_some, List, length, reverse, slice_get}
use Rattle.std.specs.Prelude.{Option, Some, None}
use Rattle.std.specs.List.{list_any}
use Rattle.std.specs.Map.{lookup}
use Rattle.pt_signal.specs.declared.pid.Pid.{Pid}
use Rattle.pt_signal.specs.declared.ids.Ref.{Ref}
use Rattle.pt_signal.specs.declared.ids.Ids.{Ids}
use Rattle.pt_signal.specs.declared.item.Item.{Item}
use Rattle.pt_signal.specs.Values.{same_ref}
use Rattle.pt_signal.specs.Process.{held}
use Rattle.pt_events.specs.declared.event.Stamped.{Stamped}
use Rattle.pt_events.specs.History.{life, state, open_monitors}
use Rattle.pt_accounts.specs.declared.account.Account.{Account}
use Rattle.pt_accounts.specs.LivesState.{AreAllPids, InEveryMerge, account_in}
use Rattle.pt_shard.specs.ShardState.{lives, state_in}
use Rattle.pt_shard.specs.Calls.{held_by}
use Rattle.pt_shard.specs.Outbox.{count_pending}
use Rattle.pt_desk.specs.DeskState.{DeskState}
use Rattle.pt_gathered.specs.Gathered.{begins, journals}
use Rattle.pt_gathered.specs.Quiet.{QuietState}
use Rattle.pt_c_values.specs.declared.types.PtPid.{PtPid}
use Rattle.pt_c_values.specs.declared.types.PtIds.{PtIds}
use Rattle.pt_c_values.specs.declared.types.PtAccount.{PtAccount}
use Rattle.pt_c_values.specs.Crossing.{pid_out, ids_out, account_out}
use Rattle.pt_c_values.specs.Codes.{unlisted}
use Rattle.pt_c_values.specs.Places.{ShowsCode}
use Rattle.pt_c_desks.specs.declared.quiet_node.QuietNode.{QuietNode}
use Rattle.pt_c_desks.specs.declared.quiet_node.QuietNode.TheVariants.{Listed, Unlisted}

-- desks --------------------------------------------------------------------------------

abbrev pub pending_in : DeskState → ℕ
pending_in d = min (count_pending d.shard) (2 ^ 64 - 1)

-- the mailbox of a process that lives here
abbrev pub waits_in : DeskState → Pid → Option (List Item)
waits_in d p = cond (lives d.shard p) (Some (state_in d.shard p).waiting) None

abbrev pub item_numbered : Option (List Item) → ℕ → Option Item
item_numbered (Some items) place = slice_get items place
item_numbered None place = None

abbrev pub linked_on_desk : DeskState → Pid → Pid → Option Ids
linked_on_desk d p q = cond (lives d.shard p) (held_by d.shard p q) None

-- what a process that lives here is linked with, in order of entry
abbrev pub links_on_desk : DeskState → Pid → Option (List (Pid × Ids))
links_on_desk d p = cond (lives d.shard p) (Some (state_in d.shard p).links) None

-- its open monitors, each with its target
abbrev pub monitors_on_desk : DeskState → Pid → Option (List (Ref × Pid))
monitors_on_desk d p = cond (lives d.shard p) (Some (state_in d.shard p).watching) None

-- the monitors that others have of it, each with its owner
abbrev pub watchers_on_desk : DeskState → Pid → Option (List (Ref × Pid))
watchers_on_desk d p = cond (lives d.shard p) (Some (state_in d.shard p).kept) None

abbrev pub traps_on_desk : DeskState → Pid → Option Bool
traps_on_desk d p = cond (lives d.shard p) (Some (state_in d.shard p).traps) None

abbrev pub nth_link : Option (List (Pid × Ids)) → ℕ → Option (Pid × Ids)
nth_link (Some links) place = slice_get links place
nth_link None place = None

abbrev pub nth_monitor : Option (List (Ref × Pid)) → ℕ → Option (Ref × Pid)
nth_monitor (Some monitors) place = slice_get monitors place
nth_monitor None place = None

abbrev pub event_count_in : DeskState → ℕ
event_count_in d = length d.shard.journal

abbrev pub event_numbered : DeskState → ℕ → Option Stamped
event_numbered d place = slice_get (reverse d.shard.journal) place

-- settled nodes --------------------------------------------------------------------------

-- the pids of all processes, each once, by shard, slot and version
abbrev pub AreItsPids : QuietState → List Pid → Type 0
AreItsPids q pids = InEveryMerge (journals q.gathered) (λ past. AreAllPids (begins q.gathered) past pids)

-- how many there are; if the node has no list of them, the code says so
abbrev pub TellsCount : QuietNode → ℕ → ℕ → ℕ → Type 0
TellsCount (Listed q) code before after =
    (code ≡ 0) × (pids : List Pid) × AreItsPids q pids × (after ≡ length pids)
TellsCount (Unlisted q) code before after = (code ≡ unlisted) × (after ≡ before)

-- the pid at a place of the list
abbrev pub ShowsPid : QuietState → ℕ → ℕ → PtPid → PtPid → Type 0
ShowsPid q place code before after =
    (pids : List Pid) × AreItsPids q pids × ShowsCode code before after pid_out (slice_get pids place)

abbrev pub TellsPid : QuietNode → ℕ → ℕ → PtPid → PtPid → Type 0
TellsPid (Listed q) place code before after = ShowsPid q place code before after
TellsPid (Unlisted q) place code before after = (code ≡ unlisted) × (after ≡ before)

abbrev pub TellsAccount : QuietState → Pid → ℕ → PtAccount → PtAccount → Type 0
TellsAccount q p code before after =
    (a : Option Account) × InEveryMerge (journals q.gathered) (λ past. a ≡ account_in (begins q.gathered) past p)
    × ShowsCode code before after account_out a

abbrev pub TellsLinked : QuietState → Pid → Pid → ℕ → PtIds → PtIds → Type 0
TellsLinked q p peer code before after =
    (ids : Option Ids)
    × InEveryMerge (journals q.gathered) (λ past. ids ≡ held (state (begins q.gathered) past p).links peer)
    × ShowsCode code before after ids_out ids

abbrev pub TellsKept : QuietState → Pid → Ref → ℕ → Bool → Type 0
TellsKept q target m code after =
    (code ≡ 0)
    × InEveryMerge (journals q.gathered)
    (λ past. after ≡ list_any (λ k. same_ref m k.0) (state (begins q.gathered) past target).kept)

abbrev pub TellsWatching : QuietState → Pid → Ref → ℕ → Bool → Type 0
TellsWatching q watcher m code after =
    (code ≡ 0)
    × InEveryMerge (journals q.gathered)
    (λ past. after ≡ is_some (lookup (same_ref m) (open_monitors (life (begins q.gathered) past watcher))))
