-- What became of one process.
use Rattle.std.specs.Prelude.{◌≡◌, ℕ, cond, Option, Some, None, [], length, ⊤}
use Rattle.pt_signal.specs.declared.pid.Pid.{Pid}
use Rattle.pt_events.specs.History.{Phase, is_living, reason_of, state_of, life}
use Rattle.pt_events.specs.Journal.{events}
use Rattle.pt_auditor.specs.declared.standing.Standing.{Standing}
use Rattle.pt_auditor.specs.Hearings.{Heard}

-- how many items wait; none where it is not alive
abbrev pub waiting_of : Phase → ℕ
waiting_of f = cond (is_living f) (length (state_of f).waiting) 0

abbrev pub standing_of : Pid → Phase → Standing
standing_of p f = record { pid = p; ended = reason_of f; waiting = waiting_of f }

-- it is what the events that were heard make of its process
abbrev pub StandingIsTrue : Heard → Option Standing → Type 0
StandingIsTrue t None = ⊤
StandingIsTrue t (Some s) = s ≡ standing_of s.pid (life [] (events t.events) s.pid)
