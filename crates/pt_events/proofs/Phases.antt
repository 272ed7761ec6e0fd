-- A pid is born once and ends once.
use Rattle.std.proofs.Common.{◌≡◌, Bool, true, false, cond, Option, Some, None, refl}
use Rattle.pt_signal.specs.declared.pid.Pid.{Pid}
use Rattle.pt_signal.specs.declared.reason.Reason.{Reason}
use Rattle.pt_events.specs.declared.event.Event.{Event}
use Rattle.pt_events.specs.declared.event.Event.TheVariants.{Born, Came}
use Rattle.pt_signal.specs.Values.{same_pid}
use Rattle.pt_signal.specs.Process.{ProcessState, handle}
use Rattle.pt_events.specs.History.{Phase, unborn, living, ended, after, change, touches, is_unborn, is_ended, live_or_end}

-- both branches of a test do it
pub each_branch : {X : Type 0} (P : X → Type 0) (b : Bool) (x y : X) → P x → P y → P (cond b x y)
each_branch P true x y h k = h
each_branch P false x y h k = k

change_ended : (p : Pid) (e : Event) (r : Reason) (s : ProcessState) → change p e (ended r s) ≡ ended r s
change_ended p (Born q parent link) r s = each_branch (λ f. f ≡ ended r s) (same_pid p q) _ _ refl refl
change_ended p _ r s = refl

-- an ended process stays as it ended
pub after_ended : (p : Pid) (e : Event) (r : Reason) (s : ProcessState) → after p e (ended r s) ≡ ended r s
after_ended p e r s = each_branch (λ f. f ≡ ended r s) (touches p e) _ _ (change_ended p e r s) refl

live_or_end_born : (o : Option Reason) (s : ProcessState) → is_unborn (live_or_end o s) ≡ false
live_or_end_born None s = refl
live_or_end_born (Some r) s = refl

change_living : (p : Pid) (e : Event) (s : ProcessState) → is_unborn (change p e (living s)) ≡ false
change_living p (Born q parent link) s = each_branch (λ f. is_unborn f ≡ false) (same_pid p q) _ _ refl refl
change_living p (Came a b x) s = live_or_end_born (handle p s a x).ending _
change_living p _ s = refl

pub after_born : (p : Pid) (e : Event) (f : Phase) → is_unborn f ≡ false → is_unborn (after p e f) ≡ false
after_born p e unborn h = absurd (cc)
after_born p e (living s) h = each_branch (λ f. is_unborn f ≡ false) (touches p e) _ _ (change_living p e s) refl
after_born p e (ended r s) h = rw after_ended

pub was_unborn : (p : Pid) (e : Event) (f : Phase) → is_unborn (after p e f) ≡ true → is_unborn f ≡ true
was_unborn p e unborn h = refl
was_unborn p e (living s) h = let k = after_born p e (living s) refl in absurd (cc)
was_unborn p e (ended r s) h = let k = after_born p e (ended r s) refl in absurd (cc)

pub was_not_ended : (p : Pid) (e : Event) (f : Phase) → is_ended (after p e f) ≡ false → is_ended f ≡ false
was_not_ended p e unborn h = refl
was_not_ended p e (living s) h = refl
was_not_ended p e (ended r s) h = let k = rw after_ended at h in absurd (cc)
