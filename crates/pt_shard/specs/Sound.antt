-- What holds of every desk: its processes are those that its journal gives. No public clause cites this module.
use Rattle.std.specs.Prelude.{◌≡◌, ℕ, ◌<◌, Bool, ◌&&◌, not, ◌==◌, nat_lt, nat_le, [], ◌∷◌, Option, Some, None, ⊤}
use Rattle.pt_signal.specs.declared.pid.Pid.{Pid}
use Rattle.pt_signal.specs.Process.{ProcessState}
use Rattle.pt_events.specs.declared.event.Event.{Event}
use Rattle.pt_events.specs.declared.event.Event.TheVariants.{Said, Came, Refused}
use Rattle.pt_events.specs.History.{Past, Start, Phase, living, life, is_unborn}
use Rattle.pt_shard.specs.ShardState.{ShardState, past}
use Rattle.pt_shard.specs.Known.{issued_in}
use Rattle.pt_shard.specs.Fit.{IsFit}
pub use Rattle.pt_shard.specs.Begun.{Every}

-- p is of the desk, and its version is one that its slot had
abbrev pub is_issued : Start → ℕ → Past → Pid → Bool
is_issued start desk past p =
    (p.shard == desk) && (nat_lt 0 p.version && nat_le p.version (issued_in start past p.slot))

-- those pids were born, and no others
abbrev pub BornAreIssued : Start → ℕ → Past → Type 0
BornAreIssued start desk past = (p : Pid) → is_unborn (life start past p) ≡ not (is_issued start desk past p)

-- a live process, by its pid and its state
abbrev pub of_phase : Pid → Phase → Option (Pid × ProcessState)
of_phase p (living s) = Some (p, s)
of_phase p _ = None

-- what the journal has of p
abbrev pub live_process : Start → Past → Pid → Option (Pid × ProcessState)
live_process start past p = of_phase p (life start past p)

-- the other process of the event is of a desk of the node
abbrev pub IsNear : ℕ → Event → Type 0
IsNear desks (Said a b x) = b.shard < desks
IsNear desks (Came a b x) = a.shard < desks
IsNear desks (Refused a b) = b.shard < desks
IsNear desks _ = ⊤

abbrev pub AllNear : ℕ → Past → Type 0
AllNear desks [] = ⊤
AllNear desks (e ∷ past) = IsNear desks e × AllNear desks past

-- `read` tells what the slots have for a pid, `issued` the latest version of a slot
pub record IsSound (d : ShardState) (read : Pid → Option (Pid × ProcessState)) (issued : ℕ → ℕ) : Type 0 where
  pub fit : IsFit d
  -- each live process stands in its slot as the journal has it, and nothing else stands anywhere
  pub processes : (p : Pid) → read p ≡ live_process d.start (past d) p
  pub issues : (slot : ℕ) → issued slot ≡ issued_in d.start (past d) slot
  pub born : BornAreIssued d.start d.number (past d)
  pub near : AllNear d.config.desks (past d)
