-- Who waits, waits still where nothing came to it.
use Rattle.std.proofs.Common.{◌≡◌, Bool, true, false, cond, ◌||◌, List, [], ◌∷◌, ◌++◌, Option, Some, None, refl, sym, subst}
use Rattle.std.specs.Prelude.{is_some}
use Rattle.std.specs.List.{find}
use Rattle.pt_signal.specs.declared.pid.Pid.{Pid}
use Rattle.pt_signal.specs.declared.ids.LinkId.{LinkId}
use Rattle.pt_signal.specs.declared.item.Item.{Item}
use Rattle.pt_signal.specs.declared.item.Pick.{Pick}
use Rattle.pt_signal.specs.declared.signal.Signal.{Signal}
use Rattle.pt_signal.specs.Values.{same_pid, fits, without_first}
use Rattle.pt_signal.specs.Process.{ProcessState, fresh, say}
use Rattle.pt_events.specs.declared.event.Event.{Event}
use Rattle.pt_events.specs.declared.event.Event.TheVariants.{Born, Said, Came, Took, Flag, Left, Refused}
use Rattle.pt_events.specs.declared.event.Stamped.{Stamped}
use Rattle.pt_events.specs.History.{Phase, unborn, living, ended, Start, life, after, is_unborn, touches, newborn, linked, while_living}
use Rattle.pt_events.specs.Journal.{events}
use Rattle.pt_events.proofs.Phases.{after_born, each_branch}
use Rattle.pt_events.proofs.Fields.{say_keeps}
use Rattle.pt_shard.specs.Extends.{Extends}
use Rattle.pt_shard.specs.ShardState.{ShardState, phase_of}
use Rattle.pt_workers.specs.Waking.{came_in, came_to, need_not_wait}

-- what is found without one item was there before
found_before : {X : Type 0} (P Q : X → Bool) (xs : List X) → is_some (find P (without_first Q xs)) ≡ true → is_some (find P xs) ≡ true
found_before P Q [] h = h
found_before P Q (x ∷ xs) h = go (P x) (Q x) refl refl h (found_before P Q xs)
  where
    go : (b c : Bool) → P x ≡ b → Q x ≡ c → is_some (find P (cond (Q x) xs (x ∷ without_first Q xs))) ≡ true
        → (is_some (find P (without_first Q xs)) ≡ true → is_some (find P xs) ≡ true) → is_some (find P (x ∷ xs)) ≡ true
    go true c e f h ih = rw e refl
    go false true e f h ih = let k : is_some (find P xs) ≡ true = rw f at h in rw e k
    go false false e f h ih = let k : is_some (find P (x ∷ without_first Q xs)) ≡ true = rw f at h in let j : is_some (find P (without_first Q xs)) ≡ true = rw e at k in rw e (ih j)

-- an event after which k fits something, and that is no receipt, found it fitting
abbrev IsKept : Pick → Phase → Phase → Type 0
IsKept k f g = need_not_wait k g ≡ true → need_not_wait k f ≡ true

born_bare : (k : Pick) (parent : Option Pid) (link : Option LinkId) → is_some (find (fits k) (linked parent link fresh).waiting) ≡ false
born_bare k (Some q) (Some i) = refl
born_bare k (Some q) None = refl
born_bare k None (Some i) = refl
born_bare k None None = refl

linked_kept : (k : Pick) (q : Pid) (link : Option LinkId) (f : Phase) → IsKept k f (while_living (linked (Some q) link) f)
linked_kept k q link unborn h = h
linked_kept k q (Some i) (living s) h = h
linked_kept k q None (living s) h = h
linked_kept k q link (ended r s) h = h

newborn_kept : (k : Pick) (parent : Option Pid) (link : Option LinkId) (f : Phase) → IsKept k f (newborn parent link f)
newborn_kept k parent link unborn h = absurd (let e = born_bare k parent link in cc)
newborn_kept k parent link (living s) h = h
newborn_kept k parent link (ended r s) h = h

said_kept : (k : Pick) (b : Pid) (x : Signal) (f : Phase) → IsKept k f (while_living (λ s. say s b x) f)
said_kept k b x unborn h = h
said_kept k b x (living s) h = subst (λ (w : List Item). is_some (find (fits k) w) ≡ true) (say_keeps (λ (t : ProcessState). t.waiting) (λ l t. refl) (λ l t. refl) b x s) h
said_kept k b x (ended r s) h = h

took_kept : (k j : Pick) (f : Phase) → IsKept k f (while_living (λ s. record s { waiting = without_first (fits j) s.waiting }) f)
took_kept k j unborn h = h
took_kept k j (living s) h = found_before (fits k) (fits j) s.waiting h
took_kept k j (ended r s) h = h

flag_kept : (k : Pick) (on : Bool) (f : Phase) → IsKept k f (while_living (λ s. record s { traps = on }) f)
flag_kept k on unborn h = h
flag_kept k on (living s) h = h
flag_kept k on (ended r s) h = h

event_kept : (k : Pick) (p : Pid) (e : Event) (f : Phase) → came_to p e ≡ false → IsKept k f (after p e f)
event_kept k p (Born q parent link) f quiet =
    each_branch (IsKept k f) (touches p (Born q parent link)) _ _
    (each_branch (IsKept k f) (same_pid p q) _ _ (newborn_kept k parent link f) (linked_kept k q link f)) (λ h. h)
event_kept k p (Said a b x) f quiet = each_branch (IsKept k f) (same_pid p a) _ _ (said_kept k b x f) (λ h. h)
event_kept k p (Came a b x) f quiet = let other : same_pid p b ≡ false = quiet in rw other (λ h. h)
event_kept k p (Took q j i) f quiet = each_branch (IsKept k f) (same_pid p q) _ _ (took_kept k j f) (λ h. h)
event_kept k p (Flag q on) f quiet = each_branch (IsKept k f) (same_pid p q) _ _ (flag_kept k on f) (λ h. h)
event_kept k p (Refused a b) f quiet = λ h. h
event_kept k p (Left q r) f quiet = let other : same_pid p q ≡ false = quiet in rw other (λ h. h)

pub neither : (a b : Bool) → (a || b) ≡ false → (a ≡ false) × (b ≡ false)
neither true b h = absurd (cc)
neither false b h = (refl, h)

-- nothing came since: who need not wait now needed not then
kept_since : (start : Start) (k : Pick) (p : Pid) (more seen : List Stamped) → came_in p more ≡ false
    → need_not_wait k (life start (events (more ++ seen)) p) ≡ true → need_not_wait k (life start (events seen) p) ≡ true
kept_since start k p [] seen h w = w
kept_since start k p (s ∷ more) seen h w =
    let none = neither (came_to p s.event) (came_in p more) h in
    kept_since start k p more seen none.1 (event_kept k p s.event (life start (events (more ++ seen)) p) none.0 w)

pub need_not_before : (old new : ShardState) (e : Extends old new) (k : Pick) (p : Pid) → came_in p e.more ≡ false → need_not_wait k (phase_of new p) ≡ true → need_not_wait k (phase_of old p) ≡ true
need_not_before old new e k p none w =
    kept_since old.start k p e.more old.journal none
    (subst (λ (j : List Stamped). need_not_wait k (life old.start (events j) p) ≡ true) e.journal
    (subst (λ (t : Start). need_not_wait k (life t (events new.journal) p) ≡ true) e.start w))

-- who was born stays so
born_on : (start : Start) (p : Pid) (more seen : List Stamped) → is_unborn (life start (events seen) p) ≡ false → is_unborn (life start (events (more ++ seen)) p) ≡ false
born_on start p [] seen h = h
born_on start p (s ∷ more) seen h = after_born p s.event (life start (events (more ++ seen)) p) (born_on start p more seen h)

pub born_later : (old new : ShardState) (e : Extends old new) (p : Pid) → is_unborn (phase_of old p) ≡ false → is_unborn (phase_of new p) ≡ false
born_later old new e p h =
    subst (λ (t : Start). is_unborn (life t (events new.journal) p) ≡ false) (sym e.start)
    (subst (λ (j : List Stamped). is_unborn (life old.start (events j) p) ≡ false) (sym e.journal) (born_on old.start p e.more old.journal h))
