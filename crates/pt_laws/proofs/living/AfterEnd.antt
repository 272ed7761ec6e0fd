-- Nothing enters a mailbox after the end.
use Rattle.std.proofs.Common.{◌≡◌, Bool, true, false, cond, List, [], ◌∷◌, ◌++◌, refl, ap, ◌∙◌, append-nil}
use Rattle.pt_signal.specs.declared.pid.Pid.{Pid}
use Rattle.pt_signal.specs.declared.reason.Reason.{Reason}
use Rattle.pt_signal.specs.declared.item.Item.{Item}
use Rattle.pt_signal.specs.Values.{same_pid}
use Rattle.pt_signal.specs.Process.{ProcessState}
use Rattle.pt_events.specs.declared.event.Event.{Event}
use Rattle.pt_events.specs.declared.event.Event.TheVariants.{Came}
use Rattle.pt_events.specs.History.{Past, Start, ended, life, state_of, at_start, arrived, arrived_since, arrives}
use Rattle.pt_laws.proofs.living.BirthsAndEnds.{stays_ended}

none_arrives : (start : Start) (past : Past) (p : Pid) (r : Reason) (s : ProcessState) (e : Event) → life start past p ≡ ended r s → arrives start past p e ≡ []
none_arrives start past p r s (Came a b x) h = rw h (both (same_pid p b))
  where
    both : (c : Bool) → ◌≡◌ {A = List Item} (cond c [] []) []
    both true = refl
    both false = refl
none_arrives start past p r s _ h = refl

since_end : (start : Start) (later past : Past) (p : Pid) (r : Reason) (s : ProcessState) → life start past p ≡ ended r s
    → arrived_since start (later ++ past) p ≡ arrived_since start past p
since_end start [] past p r s h = refl
since_end start (e ∷ later) past p r s h =
    ap (λ z. arrived_since start (later ++ past) p ++ z) (none_arrives start (later ++ past) p r s e (stays_ended start later past p r s h))
    ∙ append-nil (arrived_since start (later ++ past) p) ∙ since_end start later past p r s h

pub nothing_after_end : (start : Start) (later past : Past) (p : Pid) (r : Reason) (s : ProcessState) → life start past p ≡ ended r s
    → arrived start (later ++ past) p ≡ arrived start past p
nothing_after_end start later past p r s h = ap (λ z. (state_of (at_start start p)).waiting ++ z) (since_end start later past p r s h)
