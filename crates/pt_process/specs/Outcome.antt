-- What `accept` answers, what the process is afterwards, and what it may say.
use Rattle.std.specs.Prelude.{◌≡◌, ◌≢◌, ◌<◌, ◌⊎◌, ⊤, Bool, true, false, List, [], ◌∷◌, length, is_some, Option, Some}
use Rattle.std.specs.Prelude.{None, Result, Ok, Err}
use Rattle.std.specs.Map.{lookup}
use Rattle.pt_signal.specs.declared.ids.Ids.{Ids}
use Rattle.pt_signal.specs.declared.ids.Ref.{Ref}
use Rattle.pt_signal.specs.declared.signal.Signal.{Signal}
use Rattle.pt_signal.specs.declared.signal.Signal.TheVariants.{AliveSay, Monitor}
use Rattle.pt_signal.specs.Values.{same_ref}
use Rattle.pt_signal.specs.Process as one
use Rattle.pt_signal.specs.Process.{ProcessState, Sent, Handled}
use Rattle.pt_process.specs.declared.outcome.Outcome.{Outcome}
use Rattle.pt_process.specs.declared.outcome.Outcome.TheVariants.{Queued, Changed, Dropped, Asked, Ends}
use Rattle.pt_process.specs.declared.verdict.Verdict.{Verdict}
use Rattle.pt_process.specs.declared.verdict.Verdict.TheVariants as code
use Rattle.pt_process.specs.ProcessView.{ProcessView}

-- what goes back is the answer yes to this question, and nothing else
abbrev pub IsYes : Ref → List Sent → Type 0
IsYes m answer = (back : Sent) × (answer ≡ back ∷ []) × (back.signal ≡ AliveSay m true)

abbrev pub IsOutcome : ProcessState → Handled → Outcome → Type 0
IsOutcome old h Queued = (h.ending ≡ None) × (h.answer ≡ []) × (h.items ≢ [])
IsOutcome old h Changed = (h.ending ≡ None) × (h.answer ≡ []) × (h.items ≡ []) × (h.state ≢ old)
IsOutcome old h Dropped = (h.ending ≡ None) × (h.answer ≡ []) × (h.items ≡ []) × (h.state ≡ old)
IsOutcome old h (Asked m) = (h.ending ≡ None) × IsYes m h.answer × (h.items ≡ []) × (h.state ≡ old)
IsOutcome old h (Ends r) = (h.ending ≡ Some r) × (h.answer ≡ [])

-- one of the lists that a signal can add to is longer
abbrev pub IsLonger : ProcessState → ProcessState → Type 0
IsLonger old new =
    (length old.waiting < length new.waiting) ⊎ (length old.links < length new.links)
    ⊎ (length old.kept < length new.kept)

-- memory is refused only where a list would grow, and nothing has changed then
abbrev pub Accepts : {E : Type 0} → ProcessView → Handled → Result Outcome E → ProcessView → Type 0
Accepts old h (Ok outcome) new = (new.me ≡ old.me) × (new.state ≡ h.state) × IsOutcome old.state h outcome
Accepts old h (Err e) new = (new.me ≡ old.me) × (new.state ≡ old.state) × IsLonger old.state h.state

-- a monitor is opened under a reference that is not open
abbrev pub IsAnew : Signal → ProcessState → Type 0
IsAnew (Monitor m) s = lookup (same_ref m) s.watching ≡ None
IsAnew _ s = ⊤

-- an entry that takes no third id
abbrev pub has_two : Option Ids → Bool
has_two None = false
has_two (Some ids) = is_some ids.two

-- the code's verdict as the rules write it
abbrev pub ruled : Verdict → one.Verdict
ruled code.Drops = one.drops
ruled (code.Queues item) = one.queues item
ruled (code.Ends r) = one.ends r
