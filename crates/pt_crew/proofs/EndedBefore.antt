-- Who has ended had ended before, where nothing came to it.
use Rattle.std.proofs.Common.{◌≡◌, true, false, List, [], ◌∷◌, ◌++◌, Option, Some, subst}
use Rattle.pt_signal.specs.declared.pid.Pid.{Pid}
use Rattle.pt_signal.specs.declared.ids.LinkId.{LinkId}
use Rattle.pt_signal.specs.Values.{same_pid, fits, without_first}
use Rattle.pt_signal.specs.Process.{ProcessState, say}
use Rattle.pt_events.specs.declared.event.Event.{Event}
use Rattle.pt_events.specs.declared.event.Event.TheVariants.{Born, Said, Came, Took, Flag, Left, Refused}
use Rattle.pt_events.specs.declared.event.Stamped.{Stamped}
use Rattle.pt_events.specs.History.{Phase, unborn, living, ended, is_ended, Start, life, after, touches, newborn, linked, while_living}
use Rattle.pt_events.specs.Journal.{events}
use Rattle.pt_events.proofs.Phases.{each_branch}
use Rattle.pt_shard.specs.Extends.{Extends}
use Rattle.pt_shard.specs.ShardState.{ShardState, phase_of}
use Rattle.pt_workers.specs.Waking.{came_in, came_to}
use Rattle.pt_workers.proofs.Waiting.{neither}

abbrev IsKept : Phase → Phase → Type 0
IsKept f g = is_ended g ≡ true → is_ended f ≡ true

changed_kept : (by : ProcessState → ProcessState) (f : Phase) → IsKept f (while_living by f)
changed_kept by unborn h = h
changed_kept by (living s) h = h
changed_kept by (ended r s) h = h

newborn_kept : (parent : Option Pid) (link : Option LinkId) (f : Phase) → IsKept f (newborn parent link f)
newborn_kept parent link unborn h = absurd (cc)
newborn_kept parent link (living s) h = h
newborn_kept parent link (ended r s) h = h

event_kept : (p : Pid) (e : Event) (f : Phase) → came_to p e ≡ false → IsKept f (after p e f)
event_kept p (Born q parent link) f quiet =
    each_branch (IsKept f) (touches p (Born q parent link)) _ _
    (each_branch (IsKept f) (same_pid p q) _ _ (newborn_kept parent link f) (changed_kept (linked (Some q) link) f)) (λ h. h)
event_kept p (Said a b x) f quiet = each_branch (IsKept f) (same_pid p a) _ _ (changed_kept (λ s. say s b x) f) (λ h. h)
event_kept p (Came a b x) f quiet = let other : same_pid p b ≡ false = quiet in rw other (λ h. h)
event_kept p (Took q j i) f quiet = each_branch (IsKept f) (same_pid p q) _ _ (changed_kept (λ s. record s { waiting = without_first (fits j) s.waiting }) f) (λ h. h)
event_kept p (Flag q on) f quiet = each_branch (IsKept f) (same_pid p q) _ _ (changed_kept (λ s. record s { traps = on }) f) (λ h. h)
event_kept p (Refused a b) f quiet = λ h. h
event_kept p (Left q r) f quiet = let other : same_pid p q ≡ false = quiet in rw other (λ h. h)

kept_since : (start : Start) (p : Pid) (more seen : List Stamped) → came_in p more ≡ false
    → is_ended (life start (events (more ++ seen)) p) ≡ true → is_ended (life start (events seen) p) ≡ true
kept_since start p [] seen h w = w
kept_since start p (s ∷ more) seen h w =
    let none = neither (came_to p s.event) (came_in p more) h in
    kept_since start p more seen none.1 (event_kept p s.event (life start (events (more ++ seen)) p) none.0 w)

pub ended_before : (old new : ShardState) (e : Extends old new) (p : Pid) → came_in p e.more ≡ false → is_ended (phase_of new p) ≡ true → is_ended (phase_of old p) ≡ true
ended_before old new e p none w =
    kept_since old.start p e.more old.journal none
    (subst (λ (j : List Stamped). is_ended (life old.start (events j) p) ≡ true) e.journal
    (subst (λ (t : Start). is_ended (life t (events new.journal) p) ≡ true) e.start w))
