-- What holds of every desk, with or without its lanes.
use Rattle.std.specs.Prelude.{◌≡◌, ◌⊎◌, ℕ, ◌+◌, ◌<◌, ◌≤◌, true, false, List, [], ◌∷◌, length, Option, Some, None}
use Rattle.std.specs.Prelude.{IfSome, ⊤}
use Rattle.pt_signal.specs.declared.letter.Letter.{Letter}
use Rattle.pt_signal.specs.declared.pid.Pid.{Pid}
use Rattle.pt_events.specs.Journal.{clock, IsLocal, posts, gots}
use Rattle.pt_shard.specs.ShardState.{ShardState, past, lives, box}
use Rattle.pt_shard.specs.Known.{issued_in}
use Rattle.pt_signal.specs.Settings.{IsInRange}
use Rattle.pt_shard.specs.Begun.{IsBegun}

-- from pids of desk d to pids of desk e
abbrev pub AreBetween : ℕ → ℕ → List Letter → Type 0
AreBetween d e [] = ⊤
AreBetween d e (l ∷ ls) = ((l.from.shard ≡ d) × (l.to.shard ≡ e)) × AreBetween d e ls

-- the latest version of a slot that was born
abbrev pub latest_version : ShardState → ℕ → ℕ
latest_version d slot = issued_in d.start (past d) slot

-- the process that the slot had last
abbrev pub latest_pid : ShardState → ℕ → Pid
latest_pid d slot = record { shard = d.number; slot = slot; version = latest_version d slot }

-- the pid that the next birth has is of a slot of the desk in which nobody lives, and of the slot's next version;
-- there is none only where in each slot somebody lives, or had the top version
unfoldable pub IsNextBirth : ShardState → Option Pid → Type 0
IsNextBirth d (Some p) =
    (p.shard ≡ d.number) × (p.slot < d.config.slots) × (lives d (latest_pid d p.slot) ≡ false)
    × (p.version ≡ latest_version d p.slot + 1) × (p.version ≤ d.config.top_version)
IsNextBirth d None =
    (slot : ℕ) → slot < d.config.slots
    → (lives d (latest_pid d slot) ≡ true) ⊎ (latest_version d slot ≡ d.config.top_version)

pub record IsFit (d : ShardState) : Type 0 where
  pub settings : IsInRange d.config
  pub here : d.number < d.config.desks
  -- of what was before, what a desk knows
  pub begun : IsBegun d.start d.config.desks d.config.start d.number
  pub clock_is : d.clock ≡ clock d.config.start d.journal
  pub local : IsLocal d.start d.config.start d.config.top_version d.number d.journal
  pub vacant : IsNextBirth d d.vacant
  pub boxes : length d.outbox ≡ d.config.desks
  pub boxed : (e : ℕ) → AreBetween d.number e (box d e)
  pub held : IfSome d.hold (λ l. (l.to.shard ≡ d.number) × (l.from.shard < d.config.desks))
  -- it sent to desks of the node alone, and got from such alone
  pub posts_near : (e : ℕ) → d.config.desks ≤ e → posts d.start d.journal e ≡ []
  pub gots_near : (e : ℕ) → d.config.desks ≤ e → gots d.journal e ≡ []
