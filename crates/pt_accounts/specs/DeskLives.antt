-- The lives of one desk's processes.
use Rattle.std.specs.Prelude.{◌≡◌, ℕ, ◌-◌, ◌≤◌, Bool, false, cond, List}
use Rattle.std.specs.Prelude.{[], ◌∷◌, map, flat_map, filter_map, length, drop, is_some}
use Rattle.std.specs.Prelude.{Option, Some, None}
use Rattle.std.specs.Option.{option_or}
use Rattle.std.specs.Map.{lookup}
use Rattle.std.specs.List.{list_any}
use Rattle.pt_signal.specs.declared.pid.Pid.{Pid}
use Rattle.pt_signal.specs.declared.ids.Ref.{Ref}
use Rattle.pt_signal.specs.declared.ids.Ids.{Ids}
use Rattle.pt_signal.specs.Values.{same_ref}
use Rattle.pt_signal.specs.Process.{held}
use Rattle.pt_events.specs.declared.event.Stamped.{Stamped}
use Rattle.pt_events.specs.History.{Past, Start, at_start, life, state_of, open_monitors, is_ended}
use Rattle.pt_events.specs.Journal.{IsLocal, events}
use Rattle.pt_events.specs.Leaving.{outcome, start_after}
use Rattle.pt_events.specs.Forgetting.{reasonless}
use Rattle.pt_events.specs.OldRefs.{HasOldRefs}
use Rattle.pt_accounts.specs.LifeState.{LifeState}
use Rattle.pt_accounts.specs.Table.{Slots, found, AreTold}

pub record DeskTable : Type 0 where
  pub desk : ℕ
  pub slots : Slots
  -- how many events of the desk's journal, from its oldest, have been read
  pub read : ℕ

-- what the table has for p
abbrev pub life_in : DeskTable → Pid → Option LifeState
life_in t p = found t.desk t.slots p

-- the table is of the desk, and has what the history says that goes on from the start
abbrev pub IsTableOf : Start → ℕ → Past → DeskTable → Type 0
IsTableOf start desk past t = (t.desk ≡ desk) × AreTold start desk t.slots past

-- reading ------------------------------------------------------------------------------------------

-- the oldest n events of a journal
abbrev pub oldest : ℕ → List Stamped → List Stamped
oldest n journal = drop (length journal - n) journal

-- as many events of the journal as it has read are in the table
pub record IsReadUpTo (start : Start) (journal : List Stamped) (t : DeskTable) : Type 0 where
  pub within : t.read ≤ length journal
  pub told : AreTold start t.desk t.slots (events (oldest t.read journal))

-- some desk's journal over the start, whatever its lowest stamp and its top version; references that were open before
-- are numbered up to the lowest stamp
pub record IsJournalOver (start : Start) (d : ℕ) (journal : List Stamped) : Type 0 where
  pub low : ℕ
  pub top : ℕ
  pub local : IsLocal start low top d journal
  pub refs : HasOldRefs low start

-- there is a start over which the table can be read on
abbrev pub MayRead : DeskTable → List Stamped → Type 0
MayRead t journal = (start : Start) × IsJournalOver start t.desk journal × IsReadUpTo start journal t

-- over every start what was read stays read, and more is
pub record ReadsOn (journal : List Stamped) (old new : DeskTable) : Type 0 where
  pub desk : new.desk ≡ old.desk
  pub more : old.read ≤ new.read
  pub over : (start : Start) → IsJournalOver start old.desk journal → IsReadUpTo start journal old
      → IsReadUpTo start journal new

-- forgetting ---------------------------------------------------------------------------------------

-- of an ended process its end alone; what a process takes counts anew
abbrev pub forgotten : LifeState → LifeState
forgotten l = record { pid = l.pid; phase = outcome l.phase; taken = 0 }

abbrev pub all_forgotten : DeskTable → DeskTable
all_forgotten t = record { desk = t.desk; slots = map (λ lives. map forgotten lives) t.slots; read = 0 }

-- over every start: where the old table tells a history, the new one tells the start that it leaves behind
abbrev pub BeginsAnew : DeskTable → DeskTable → Type 0
BeginsAnew old new = (start : Start) (desk : ℕ) (past : Past) → IsTableOf start desk past old
    → IsTableOf (start_after start past) desk [] new

-- of an ended process not even why it ended
abbrev pub bare : LifeState → LifeState
bare l = record { pid = l.pid; phase = reasonless l.phase; taken = 0 }

abbrev pub all_bare : DeskTable → DeskTable
all_bare t = record { desk = t.desk; slots = map (λ lives. map bare lives) t.slots; read = 0 }

-- over every start: where the old table tells a history, the new one tells each start that has of each process of the
-- desk what the history leaves of it, without reasons
abbrev pub BeginsBare : DeskTable → DeskTable → Type 0
BeginsBare old new = (start next : Start) (desk : ℕ) (past : Past) → IsTableOf start desk past old
    → ((p : Pid) → p.shard ≡ desk → at_start next p ≡ reasonless (life start past p))
    → IsTableOf next desk [] new

-- the last one that has ended
abbrev pub latest_end : List LifeState → Option Pid
latest_end [] = None
latest_end (l ∷ lives) = option_or (latest_end lives) (cond (is_ended l.phase) (Some l.pid) None)

-- of each slot in which a process has ended the latest, by slot
abbrev pub latest_ends : DeskTable → List Pid
latest_ends t = filter_map latest_end t.slots

-- answers ------------------------------------------------------------------------------------------

abbrev pub linked_in : Option LifeState → Pid → Option Ids
linked_in None q = None
linked_in (Some l) q = held (state_of l.phase).links q

abbrev pub kept_by : Option LifeState → Ref → Bool
kept_by None m = false
kept_by (Some l) m = list_any (λ k. same_ref m k.0) (state_of l.phase).kept

abbrev pub watching_in : Option LifeState → Ref → Bool
watching_in None m = false
watching_in (Some l) m = is_some (lookup (same_ref m) (open_monitors l.phase))

abbrev pub pids_of : List LifeState → List Pid
pids_of lives = map (λ l. l.pid) lives

-- the pids by slot, then version
abbrev pub pids_in : Slots → List Pid
pids_in slots = flat_map pids_of slots
