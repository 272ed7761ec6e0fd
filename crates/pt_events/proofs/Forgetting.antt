-- What a start without reasons says of a pid.
use Rattle.std.proofs.Common.{◌≡◌, Bool, true, false, [], ◌∷◌, ◌++◌, refl, ap}
use Rattle.std.specs.Map.{keys_of}
use Rattle.pt_signal.specs.declared.pid.Pid.{Pid}
use Rattle.pt_signal.specs.Values.{same_pid}
use Rattle.pt_events.specs.History.{Start, Phase, unborn, living, ended, at_start, is_unborn, is_ended, is_living}
use Rattle.pt_events.specs.Leaving.{outcome}
use Rattle.pt_events.specs.Forgetting.{reasonless, without_reasons}

pub reasonless_unborn : (f : Phase) → is_unborn (reasonless f) ≡ is_unborn f
reasonless_unborn unborn = refl
reasonless_unborn (living s) = refl
reasonless_unborn (ended r s) = refl

pub reasonless_ended : (f : Phase) → is_ended (reasonless f) ≡ is_ended f
reasonless_ended unborn = refl
reasonless_ended (living s) = refl
reasonless_ended (ended r s) = refl

pub reasonless_living : (f : Phase) → is_living (reasonless f) ≡ is_living f
reasonless_living unborn = refl
reasonless_living (living s) = refl
reasonless_living (ended r s) = refl

pub reasonless_outcome : (f : Phase) → reasonless (outcome f) ≡ reasonless f
reasonless_outcome unborn = refl
reasonless_outcome (living s) = refl
reasonless_outcome (ended r s) = refl

pub outcome_reasonless : (f : Phase) → outcome (reasonless f) ≡ reasonless f
outcome_reasonless unborn = refl
outcome_reasonless (living s) = refl
outcome_reasonless (ended r s) = refl

-- each pid is there as before, without the reason of its end
pub forgets_each : (start : Start) (p : Pid) → at_start (without_reasons start) p ≡ reasonless (at_start start p)
forgets_each [] p = refl
forgets_each (b ∷ start) p = go (same_pid p b.0) refl (forgets_each start p)
  where
    go : (t : Bool) → same_pid p b.0 ≡ t → at_start (without_reasons start) p ≡ reasonless (at_start start p)
        → at_start (without_reasons (b ∷ start)) p ≡ reasonless (at_start (b ∷ start) p)
    go true e ih = rw e refl
    go false e ih = rw e ih

-- of the same pids
pub forgets_keys : (start : Start) → keys_of (without_reasons start) ≡ keys_of start
forgets_keys [] = refl
forgets_keys (b ∷ start) = ap (λ ps. b.0 ∷ ps) (forgets_keys start)

-- of two starts together
pub forgets_both : (one two : Start) → without_reasons (one ++ two) ≡ without_reasons one ++ without_reasons two
forgets_both [] two = refl
forgets_both (b ∷ one) two = ap (λ z. (b.0, reasonless b.1) ∷ z) (forgets_both one two)
