-- Births and ends.
use Rattle.std.specs.Prelude.{◌≡◌, ℕ, ◌+◌, Bool, true, false, cond, not, ◌&&◌, ◌||◌, Option, Some, None, is_some, []}
use Rattle.std.specs.Prelude.{◌∷◌, ◌++◌}
use Rattle.std.specs.Option.{option_or}
use Rattle.pt_signal.specs.declared.pid.Pid.{Pid}
use Rattle.pt_signal.specs.declared.reason.Reason.{Reason}
use Rattle.pt_signal.specs.declared.signal.Signal.{Signal}
use Rattle.pt_signal.specs.declared.signal.Signal.TheVariants.{LinkExit}
use Rattle.pt_events.specs.declared.event.Event.{Event}
use Rattle.pt_events.specs.declared.event.Event.TheVariants.{Came, Left}
use Rattle.pt_signal.specs.Values.{same_pid}
use Rattle.pt_signal.specs.Process.{ProcessState, Verdict, ends, verdict, held, holds_any}
use Rattle.pt_events.specs.History.{Past, Start, Phase, living, ended, at_start, life, alive, arrived, is_birth}
use Rattle.pt_events.specs.History.{is_unborn, is_ended, reason_of}
use Rattle.pt_laws.specs.Acts.{ActsMayCome}
use Rattle.pt_events.specs.Counting.{one_if}

abbrev pub ended_by_verdict : Verdict → Option Reason
ended_by_verdict (ends r) = Some r
ended_by_verdict _ = None

-- the reason with which the signal of a ends a live p: an exit signal by the verdict, one of a link only where the link
-- is still held
abbrev pub signal_ends : Pid → ProcessState → Pid → Signal → Option Reason
signal_ends p s a (Signal.Exit r) = ended_by_verdict (verdict false s.traps (same_pid a p) a r)
signal_ends p s a (LinkExit ids r) =
    cond (holds_any (held s.links a) ids) (ended_by_verdict (verdict true s.traps (same_pid a p) a r)) None
signal_ends p s a _ = None

-- the reason with which the event ends p: its own exit, or a signal that comes while it lives
abbrev pub ends_with : Pid → Phase → Event → Option Reason
ends_with p f (Left q r) = cond (same_pid p q) (Some r) None
ends_with p (living s) (Came a b x) = cond (same_pid p b) (signal_ends p s a x) None
ends_with p f _ = None

abbrev pub births : Past → Pid → ℕ
births [] p = 0
births (e ∷ past) p = births past p + one_if (is_birth p e)

module _ (start : Start) where
  -- how often p ended
  abbrev pub deaths : Past → Pid → ℕ
  deaths [] p = 0
  deaths (e ∷ past) p = deaths past p + one_if (is_some (ends_with p (life start past p) e))

  -- p was born, in the history or before its start
  abbrev pub was_born : Past → Pid → Bool
  was_born [] p = not (is_unborn (at_start start p))
  was_born (e ∷ past) p = was_born past p || is_birth p e

  -- the reason with which p ended, in the history or before its start; the first one, if there were two
  abbrev pub end_reason : Past → Pid → Option Reason
  end_reason [] p = reason_of (at_start start p)
  end_reason (e ∷ past) p = option_or (end_reason past p) (ends_with p (life start past p) e)

-- a pid is born once, ends once, and is ever after as it ended
abbrev pub LivesOnce : Type 0
LivesOnce =
    (start : Start) (past : Past) (p : Pid) → ActsMayCome start past
    → (births past p + one_if (not (is_unborn (at_start start p))) ≡ one_if (not (is_unborn (life start past p))))
    × (deaths start past p + one_if (is_ended (at_start start p)) ≡ one_if (is_ended (life start past p)))

abbrev pub StaysEnded : Type 0
StaysEnded =
    (start : Start) (later past : Past) (p : Pid) (r : Reason) (s : ProcessState)
    → life start past p ≡ ended r s → life start (later ++ past) p ≡ ended r s

-- alive is born and not ended
abbrev pub AliveUntilEnd : Type 0
AliveUntilEnd =
    (start : Start) (past : Past) (p : Pid) → ActsMayCome start past
    → (alive start past p ≡ was_born start past p && not (is_some (end_reason start past p)))
    × (reason_of (life start past p) ≡ end_reason start past p)

-- nothing enters the mailbox after the end
abbrev pub NothingAfterEnd : Type 0
NothingAfterEnd =
    (start : Start) (later past : Past) (p : Pid) (r : Reason) (s : ProcessState)
    → life start past p ≡ ended r s → arrived start (later ++ past) p ≡ arrived start past p
