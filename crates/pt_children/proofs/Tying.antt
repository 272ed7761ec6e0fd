-- A process that is tied to another stays so.
use Rattle.std.proofs.Common.{◌≡◌, ◌⊎◌, inl, inr, Bool, true, false, cond, ◌||◌, List, [], ◌∷◌, ◌++◌, Option, Some, None, is_some, refl, sym, ap, subst, ◌∙◌}
use Rattle.std.specs.List.{list_any, find}
use Rattle.std.specs.Map.{lookup, remove_entry}
use Rattle.std.proofs.lemmas.List.Folds.{list_any-append}
use Rattle.pt_signal.specs.declared.pid.Pid.{Pid}
use Rattle.pt_signal.specs.declared.ids.Ref.{Ref}
use Rattle.pt_signal.specs.declared.ids.LinkId.{LinkId}
use Rattle.pt_signal.specs.declared.item.Item.{Item}
use Rattle.pt_signal.specs.declared.item.Item.TheVariants.{User}
use Rattle.pt_signal.specs.declared.reason.Reason.{Reason}
use Rattle.pt_signal.specs.declared.signal.Signal.{Signal}
use Rattle.pt_signal.specs.declared.signal.Signal.TheVariants.{Message, Link, Unlink, LinkExit, Monitor, Demonitor, AliveAsk, AliveSay}
use Rattle.pt_signal.specs.declared.item.Pick.{Pick}
use Rattle.pt_signal.specs.Values.{fits, same_pid, same_ref, without_first}
use Rattle.pt_signal.specs.Process.{ProcessState, Verdict, drops, queues, ends, verdict, held, enter, cut, handle, obey, link_exit, down, holds_any}
use Rattle.pt_signal.proofs.Same.{same_pid_is}
use Rattle.pt_laws.proofs.linking.Entries.{held-enter, held-enter-other, held-cut-other, held-removed-other}
use Rattle.pt_children.proofs.Cases.{by_cases}
use Rattle.pt_children.specs.Families.{IsTied, is_end_of}

pub or_left : (a b : Bool) → a ≡ true → (a || b) ≡ true
or_left true b h = refl
or_left false b h = absurd (cc)

pub or_right : (a b : Bool) → b ≡ true → (a || b) ≡ true
or_right true b h = refl
or_right false b h = h

-- of those that pass another test one stays, where the first that passes leaves, and is none of them
pub stays_in : {X : Type 0} (test fits : X → Bool) (xs : List X) (x : X) → find fits xs ≡ Some x → test x ≡ false → list_any test xs ≡ true → list_any test (without_first fits xs) ≡ true
stays_in {X} test fits [] x found out any = any
stays_in {X} test fits (y ∷ xs) x found out any = by_cases (fits y)
    (λ is.
    let here : Some y ≡ Some x = sym (ap (λ (b : Bool). cond b (Some y) (find fits xs)) is) ∙ found in
    let same : y ≡ x = cc in
    let not_y : test y ≡ false = ap test same ∙ out in
    let rest : list_any test xs ≡ true = sym (ap (λ (b : Bool). b || list_any test xs) not_y) ∙ any in
    subst (λ (b : Bool). list_any test (cond b xs (y ∷ without_first fits xs)) ≡ true) (sym is) rest)
    (λ no_fit.
    let later : find fits xs ≡ Some x = sym (ap (λ (b : Bool). cond b (Some y) (find fits xs)) no_fit) ∙ found in
    subst (λ (b : Bool). list_any test (cond b xs (y ∷ without_first fits xs)) ≡ true) (sym no_fit)
    (by_cases (test y) (λ t. or_left (test y) (list_any test (without_first fits xs)) t)
    (λ f. or_right (test y) (list_any test (without_first fits xs)) (stays_in test fits xs x later out (sym (ap (λ (b : Bool). b || list_any test xs) f) ∙ any)))))

pub more_waits : (test : Item → Bool) (items more : List Item) → list_any test items ≡ true → list_any test (items ++ more) ≡ true
more_waits test items more h = list_any-append test items more ∙ or_left (list_any test items) (list_any test more) h

-- by fields
pub tied_by : (s t : ProcessState) (q : Pid) → (is_some (held s.links q) ≡ true → is_some (held t.links q) ≡ true) → (list_any (is_end_of q) s.waiting ≡ true → list_any (is_end_of q) t.waiting ≡ true)
    → IsTied s q → IsTied t q
tied_by s t q f g (inl h) = inl (f h)
tied_by s t q f g (inr h) = inr (g h)

queued_tied : (s : ProcessState) (item : Item) (q : Pid) → IsTied s q → IsTied (record s { waiting = s.waiting ++ item ∷ [] }) q
queued_tied s item q = tied_by s (record s { waiting = s.waiting ++ item ∷ [] }) q (λ h. h) (more_waits (is_end_of q) s.waiting (item ∷ []))

pub entered_tied : (s : ProcessState) (p q : Pid) (i : LinkId) → IsTied s q → IsTied (record s { links = enter p i s.links }) q
entered_tied s p q i = tied_by s (record s { links = enter p i s.links }) q
    (λ h. by_cases (same_pid q p)
    (λ same. subst (λ (x : Pid). is_some (held (enter p i s.links) x) ≡ true) (sym (same_pid_is q p same)) (ap is_some (held-enter p i s.links)))
    (λ other. ap is_some (held-enter-other q p i s.links other) ∙ h))
    (λ h. h)

-- an exit signal that came, of a process that traps
obeyed : (v : Verdict) (s : ProcessState) (q : Pid) → IsTied s q → IsTied (obey v s).state q
obeyed drops s q h = h
obeyed (queues item) s q h = queued_tied s item q h
obeyed (ends r) s q h = h

trapped : (s : ProcessState) (traps own : Bool) (from : Pid) (r : Reason) → traps ≡ true → (obey (verdict true traps own from r) s).state ≡ record s { waiting = s.waiting ++ Item.Exit from r ∷ [] }
trapped s true own from r h = refl
trapped s false own from r h = absurd (cc)

-- the end of one that was linked: it is told by an item
link_exit_tied : (known : Bool) (me : Pid) (s : ProcessState) (from : Pid) (r : Reason) (q : Pid) → s.traps ≡ true → IsTied s q → IsTied (link_exit known me s from r).state q
link_exit_tied false me s from r q traps h = h
link_exit_tied true me s from r q traps h =
    subst (λ (t : ProcessState). IsTied t q) (sym (trapped without s.traps (same_pid from me) from r traps))
    (by_cases (same_pid q from)
    (λ same. inr (list_any-append (is_end_of q) s.waiting (Item.Exit from r ∷ []) ∙ or_right (list_any (is_end_of q) s.waiting) (same_pid q from || false) (or_left (same_pid q from) false same)))
    (λ other. tied_by s (record without { waiting = s.waiting ++ Item.Exit from r ∷ [] }) q
    (λ k. ap is_some (held-removed-other q from s.links other) ∙ k) (more_waits (is_end_of q) s.waiting (Item.Exit from r ∷ [])) h))
  where
    without : ProcessState
    without = record s { links = remove_entry (same_pid from) s.links }

down_tied : (o : Option Pid) (s : ProcessState) (from : Pid) (m : Ref) (r : Reason) (q : Pid) → IsTied s q → IsTied (down o s from m r).state q
down_tied None s from m r q h = h
down_tied (Some t) s from m r q h = queued_tied (record s { watching = remove_entry (same_ref m) s.watching }) (Item.Down m from r) q (tied_by s (record s { watching = remove_entry (same_ref m) s.watching }) q (λ k. k) (λ k. k) h)

-- what came leaves it tied, or was the unlink of the other
abbrev pub is_unlink : Signal → Bool
is_unlink (Unlink ids) = true
is_unlink _ = false

pub handled_tied : (me : Pid) (s : ProcessState) (a : Pid) (x : Signal) (q : Pid) → s.traps ≡ true → IsTied s q → ((is_unlink x ≡ true) × (same_pid q a ≡ true)) ⊎ IsTied (handle me s a x).state q
handled_tied me s a (Message b) q traps h = inr (queued_tied s (User a b) q h)
handled_tied me s a (Link i) q traps h = inr (entered_tied s a q i h)
handled_tied me s a (Unlink ids) q traps h = by_cases (same_pid q a)
    (λ same. inl (refl, same))
    (λ other. inr (tied_by s (record s { links = cut a ids s.links }) q (λ k. ap is_some (held-cut-other q a ids s.links other) ∙ k) (λ k. k) h))
handled_tied me s a (Signal.Exit r) q traps h = inr (obeyed (verdict false s.traps (same_pid a me) a r) s q h)
handled_tied me s a (LinkExit ids r) q traps h = inr (link_exit_tied (holds_any (held s.links a) ids) me s a r q traps h)
handled_tied me s a (Monitor m) q traps h = inr h
handled_tied me s a (Demonitor m) q traps h = inr h
handled_tied me s a (Signal.Down m r) q traps h = inr (down_tied (lookup (same_ref m) s.watching) s a m r q h)
handled_tied me s a (AliveAsk m) q traps h = inr h
handled_tied me s a (AliveSay m y) q traps h = inr (queued_tied s (Item.Alive m a y) q h)

-- what came leaves the flag
obeyed_traps : (v : Verdict) (s : ProcessState) → (obey v s).state.traps ≡ s.traps
obeyed_traps drops s = refl
obeyed_traps (queues item) s = refl
obeyed_traps (ends r) s = refl

link_exit_traps : (known : Bool) (me : Pid) (s : ProcessState) (from : Pid) (r : Reason) → (link_exit known me s from r).state.traps ≡ s.traps
link_exit_traps false me s from r = refl
link_exit_traps true me s from r = obeyed_traps (verdict true s.traps (same_pid from me) from r) (record s { links = remove_entry (same_pid from) s.links })

down_traps : (o : Option Pid) (s : ProcessState) (from : Pid) (m : Ref) (r : Reason) → (down o s from m r).state.traps ≡ s.traps
down_traps None s from m r = refl
down_traps (Some t) s from m r = refl

pub handled_traps : (me : Pid) (s : ProcessState) (a : Pid) (x : Signal) → (handle me s a x).state.traps ≡ s.traps
handled_traps me s a (Message b) = refl
handled_traps me s a (Link i) = refl
handled_traps me s a (Unlink ids) = refl
handled_traps me s a (Signal.Exit r) = obeyed_traps (verdict false s.traps (same_pid a me) a r) s
handled_traps me s a (LinkExit ids r) = link_exit_traps (holds_any (held s.links a) ids) me s a r
handled_traps me s a (Monitor m) = refl
handled_traps me s a (Demonitor m) = refl
handled_traps me s a (Signal.Down m r) = down_traps (lookup (same_ref m) s.watching) s a m r
handled_traps me s a (AliveAsk m) = refl
handled_traps me s a (AliveSay m y) = refl

-- what came takes no item away
abbrev pub HasItem : ProcessState → Type 0
HasItem s = is_some (find (fits Pick.Any) s.waiting) ≡ true

any_more : (items more : List Item) → is_some (find (fits Pick.Any) items) ≡ true → is_some (find (fits Pick.Any) (items ++ more)) ≡ true
any_more [] more h = absurd (cc)
any_more (i ∷ items) more h = refl

obeyed_ready : (v : Verdict) (s : ProcessState) → HasItem s → HasItem (obey v s).state
obeyed_ready drops s h = h
obeyed_ready (queues item) s h = any_more s.waiting (item ∷ []) h
obeyed_ready (ends r) s h = h

link_exit_ready : (known : Bool) (me : Pid) (s : ProcessState) (from : Pid) (r : Reason) → HasItem s → HasItem (link_exit known me s from r).state
link_exit_ready false me s from r h = h
link_exit_ready true me s from r h = obeyed_ready (verdict true s.traps (same_pid from me) from r) (record s { links = remove_entry (same_pid from) s.links }) h

down_ready : (o : Option Pid) (s : ProcessState) (from : Pid) (m : Ref) (r : Reason) → HasItem s → HasItem (down o s from m r).state
down_ready None s from m r h = h
down_ready (Some t) s from m r h = any_more s.waiting (Item.Down m from r ∷ []) h

pub handled_ready : (me : Pid) (s : ProcessState) (a : Pid) (x : Signal) → HasItem s → HasItem (handle me s a x).state
handled_ready me s a (Message b) h = any_more s.waiting (User a b ∷ []) h
handled_ready me s a (Link i) h = h
handled_ready me s a (Unlink ids) h = h
handled_ready me s a (Signal.Exit r) h = obeyed_ready (verdict false s.traps (same_pid a me) a r) s h
handled_ready me s a (LinkExit ids r) h = link_exit_ready (holds_any (held s.links a) ids) me s a r h
handled_ready me s a (Monitor m) h = h
handled_ready me s a (Demonitor m) h = h
handled_ready me s a (Signal.Down m r) h = down_ready (lookup (same_ref m) s.watching) s a m r h
handled_ready me s a (AliveAsk m) h = h
handled_ready me s a (AliveSay m y) h = any_more s.waiting (Item.Alive m a y ∷ []) h
