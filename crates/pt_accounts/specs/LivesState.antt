-- What became of a node's processes, and what is told of them.
use Rattle.std.specs.Prelude.{◌≡◌, ℕ, ◌<◌, ◌≤◌, ◌↔◌, false, cond, List, [], flat_map, length, slice_index_or}
use Rattle.std.specs.Prelude.{Option, Some, None}
use Rattle.pt_signal.specs.declared.pid.Pid.{Pid}
use Rattle.pt_signal.specs.declared.item.Item.{Item}
use Rattle.pt_events.specs.declared.event.Stamped.{Stamped}
use Rattle.pt_events.specs.History.{Past, Start, Phase, unborn, at_start, life, state_of, arrived, is_unborn, reason_of}
use Rattle.pt_events.specs.Journal.{Journals, IsLocal, IsMerge, events}
use Rattle.pt_events.specs.Takes.{taken}
use Rattle.pt_accounts.specs.declared.account.Account.{Account}
use Rattle.pt_accounts.specs.DeskLives.{DeskTable, IsTableOf, pids_in}
use Rattle.pt_accounts.specs.Pids.{AreRising, IsIn}
use Rattle.pt_signal.specs.declared.reason.Reason.{Reason}

-- the words of the contracts ------------------------------------------------------------------------

abbrev pub account_at : Phase → List Item → List Item → Option Account
account_at f came took = cond (is_unborn f) None (Some (record {
  ended = reason_of f;
  arrived = length came;
  taken = length took;
  waiting = length (state_of f).waiting;
}))

-- the reason that a process ended with, if it has
abbrev pub ended_with : Option Account → Option Reason
ended_with None = None
ended_with (Some a) = a.ended

-- what the history says of p, if it was born
abbrev pub account_in : Start → Past → Pid → Option Account
account_in start past p = account_at (life start past p) (arrived start past p) (taken past p)

-- the pids born, each once, by shard, slot and version
abbrev pub AreAllPids : Start → Past → List Pid → Type 0
AreAllPids start past pids = AreRising pids × ((p : Pid) → IsIn p pids ↔ (is_unborn (life start past p) ≡ false))

-- it is so in every merge of the journals
abbrev pub InEveryMerge : Journals → (Past → Type 0) → Type 0
InEveryMerge journals Says = (merged : List Stamped) → IsMerge journals merged → Says (events merged)

-- whose lives they are ------------------------------------------------------------------------------

-- one table a desk, by the desk's number
abbrev pub Lives : Type 0
Lives = List DeskTable

-- each journal is that of the desk of its number
pub record AreDeskJournals (start : Start) (journals : Journals) : Type 0 where
  pub low : ℕ
  pub top : ℕ
  pub local : (d : ℕ) → IsLocal start low top d (journals d)

-- each desk's table has what its journal says, and desks without a table have no processes and no events
pub record AreLivesOf (start : Start) (journals : Journals) (lives : Lives) : Type 0 where
  pub desks : AreDeskJournals start journals
  pub told : (d : ℕ) (t : DeskTable) → d < length lives
      → IsTableOf start d (events (journals d)) (slice_index_or lives d t)
  pub rest : (d : ℕ) → length lives ≤ d → journals d ≡ []
  pub nobody : (p : Pid) → length lives ≤ p.shard → at_start start p ≡ unborn

-- it is so in every merge of the journals whose lives they are, over their start
abbrev pub Tell : Lives → (Start → Past → Type 0) → Type 0
Tell lives Says =
    (start : Start) (journals : Journals) → AreLivesOf start journals lives → InEveryMerge journals (Says start)

abbrev pub all_pids : Lives → List Pid
all_pids lives = flat_map (λ t. pids_in t.slots) lives
