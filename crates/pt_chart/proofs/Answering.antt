-- What goes back to one who asks.
use Rattle.std.proofs.Common.{◌≡◌, [], ◌∷◌, true, ap, ◌∙◌, subst}
use Rattle.pt_signal.specs.declared.pid.Pid.{Pid}
use Rattle.pt_signal.specs.declared.ids.Ref.{Ref}
use Rattle.pt_signal.specs.declared.signal.Signal.{Signal}
use Rattle.pt_signal.specs.declared.signal.Signal.TheVariants.{AliveAsk, AliveSay}
use Rattle.pt_signal.specs.Process.{ProcessState, Sent, handle, sent}
use Rattle.pt_events.proofs.Handling.{handle_answer, living_answer}
use Rattle.pt_process.specs.Outcome.{IsYes}

-- the answer is a yes under this reference, so it goes back to the one who asked
back_to : (me from : Pid) (x : Signal) (m : Ref) → IsYes m (living_answer me from x) → living_answer me from x ≡ sent me from (AliveSay m true) ∷ []
back_to me from (AliveAsk n) m y =
    let one : sent me from (AliveSay n true) ≡ y.0 = cc in
    let same : AliveSay n true ≡ AliveSay m true = ap (λ (l : Sent). l.signal) one ∙ y.2 in
    ap (λ z. sent me from z ∷ []) same
back_to me from _ m y = let no : [] ≡ y.0 ∷ [] = y.1 in absurd (cc)

pub back_is : (me from : Pid) (x : Signal) (s : ProcessState) (m : Ref) → IsYes m (handle me s from x).answer → (handle me s from x).answer ≡ sent me from (AliveSay m true) ∷ []
back_is me from x s m y = handle_answer me s from x ∙ back_to me from x m (subst (IsYes m) (handle_answer me s from x) y)
