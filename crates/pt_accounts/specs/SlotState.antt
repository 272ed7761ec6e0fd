-- What a slot keeps of its processes. No public clause cites this module.
use Rattle.std.specs.Prelude.{◌≡◌, ℕ, ◌+◌, ◌≤◌, ◌<◌, ◌^◌, ◌⊎◌, true}
use Rattle.std.specs.Prelude.{List, [], ◌∷◌, ◌++◌, length, option_to_list, cond, is_some, Option}
use Rattle.std.specs.Prelude.{Some, None, IfSome, ⊤}
use Rattle.pt_signal.specs.declared.reason.Reason.{Reason}
use Rattle.pt_signal.specs.Process.{fresh}
use Rattle.pt_events.specs.History.{ended, is_ended, reason_of}
use Rattle.pt_accounts.specs.LifeState.{LifeState, account_of}
use Rattle.pt_accounts.specs.Table.{Slots, life_at}
use Rattle.pt_accounts.specs.Pids.{pid_of_slot}

-- a forgotten process
abbrev pub end_at : ℕ → ℕ → ℕ → Reason → LifeState
end_at d s v r = record { pid = pid_of_slot d s v; phase = ended r fresh; taken = 0 }

-- forgotten processes, from version v on
abbrev pub ended_from : ℕ → ℕ → ℕ → List Reason → List LifeState
ended_from d s v [] = []
ended_from d s v (r ∷ rs) = end_at d s v r ∷ ended_from d s (v + 1) rs

-- those that were forgotten, those that ended since, and the newest
abbrev pub lives_of : ℕ → ℕ → List Reason → List LifeState → Option LifeState → List LifeState
lives_of d s rs lives newest = ended_from d s 1 rs ++ lives ++ option_to_list newest

abbrev pub LifeIsOver : LifeState → Type 0
LifeIsOver l = is_ended l.phase ≡ true

abbrev pub AreOver : List LifeState → Type 0
AreOver [] = ⊤
AreOver (l ∷ lives) = LifeIsOver l × AreOver lives

-- each life has the pid of its place, from version v on
abbrev pub AreVersions : ℕ → ℕ → ℕ → List LifeState → Type 0
AreVersions d s v [] = ⊤
AreVersions d s v (l ∷ lives) = (l.pid ≡ pid_of_slot d s v) × AreVersions d s (v + 1) lives

-- all but the newest have ended, each has the pid of its place, and there is room for the ends of all
pub record IsSlot (d s : ℕ) (rs : List Reason) (capacity : ℕ) (lives : List LifeState) (newest : Option LifeState)
    : Type 0 where
  pub over : AreOver lives
  pub placed : AreVersions d s (length rs + 1) (lives ++ option_to_list newest)
  pub few : length rs + length lives + length (option_to_list newest) < 2 ^ 32
  pub room : length rs + length lives + length (option_to_list newest) ≤ capacity

-- why they ended, of those that have
abbrev pub reasons_of : List LifeState → List Reason
reasons_of [] = []
reasons_of (l ∷ lives) = option_to_list (reason_of l.phase) ++ reasons_of lives

-- why the newest ended, if it has
abbrev pub life_end : Option LifeState → Option Reason
life_end None = None
life_end (Some l) = reason_of l.phase

-- what is left of the newest where it is forgotten
abbrev pub left_of : Option LifeState → Option LifeState
left_of None = None
left_of (Some l) = cond (is_some (reason_of l.phase)) None (Some (record l { taken = 0 }))

-- how many of the newest live
abbrev pub living_of : Option LifeState → ℕ
living_of None = 0
living_of (Some l) = cond (is_ended l.phase) 0 1

-- the last one has ended, if there is one
abbrev pub HasEnded : List LifeState → Type 0
HasEnded [] = ⊤
HasEnded (l ∷ []) = LifeIsOver l
HasEnded (l ∷ m ∷ lives) = HasEnded (m ∷ lives)

-- a forgotten process is known, but nothing that it held
abbrev pub IsForgotten : Option LifeState → Type 0
IsForgotten None = ⊤
IsForgotten (Some l) = (r : Reason) × (l.phase ≡ ended r fresh)

-- what is found of it, if anything is kept
abbrev pub Finds : Option LifeState → Option LifeState → Type 0
Finds known found = (found ≡ known) ⊎ ((found ≡ None) × IsForgotten known)

-- no more arrivals than n
abbrev pub IsCounted : ℕ → LifeState → Type 0
IsCounted n l = (account_of l).arrived ≤ n

abbrev pub SlotsAreCounted : ℕ → Slots → Type 0
SlotsAreCounted n slots = (s v : ℕ) → IfSome (life_at slots s v) (IsCounted n)

-- which a u64 counts
pub record IsCountedUpTo (n : ℕ) (slots : Slots) : Type 0 where
  pub few : n < 2 ^ 64
  pub counted : SlotsAreCounted n slots
