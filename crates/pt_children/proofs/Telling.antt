-- An end that waits to be heard was told.
use Rattle.std.proofs.Common.{◌≡◌, ◌⊎◌, inl, inr, ℕ, zero, suc, ◌+◌, ◌≤◌, min, Bool, true, false, cond, ◌||◌, ◌&&◌, List, [], ◌∷◌, ◌++◌, take, Option, Some, None, refl, sym, ap, subst, ◌∙◌, arith}
use Rattle.std.specs.List.{find, list_any}
use Rattle.std.specs.Map.{lookup}
use Rattle.std.proofs.lemmas.List.Folds.{list_any-append}
use Rattle.pt_signal.specs.declared.pid.Pid.{Pid}
use Rattle.pt_signal.specs.declared.ids.Ref.{Ref}
use Rattle.pt_signal.specs.declared.ids.LinkId.{LinkId}
use Rattle.pt_signal.specs.declared.item.Item.{Item}
use Rattle.pt_signal.specs.declared.item.Item.TheVariants.{User}
use Rattle.pt_signal.specs.declared.reason.Reason.{Reason}
use Rattle.pt_signal.specs.declared.reason.Reason.TheVariants.{Normal, Kill}
use Rattle.pt_signal.specs.declared.signal.Signal.{Signal}
use Rattle.pt_signal.specs.declared.signal.Signal.TheVariants.{Message, Link, Unlink, LinkExit, Monitor, Demonitor, AliveAsk, AliveSay}
use Rattle.pt_signal.specs.Values.{same_pid, same_ref, fits, without_first}
use Rattle.pt_signal.specs.Process.{ProcessState, fresh, verdict, obey, held, holds_any, link_exit, down, handle, say}
use Rattle.pt_events.specs.declared.event.Event.{Event}
use Rattle.pt_events.specs.declared.event.Event.TheVariants.{Born, Said, Came, Took, Flag, Left, Refused}
use Rattle.pt_events.specs.History.{Past, Start, Phase, unborn, living, ended, at_start, is_unborn, state_of, life, change, touches, newborn, linked, while_living, gets, live_or_end}
use Rattle.pt_events.specs.History.{after as turned}
use Rattle.pt_children.proofs.Cases.{by_cases}
use Rattle.pt_children.specs.Families.{is_end_of, tells_end, has_told, WereTold}
use Rattle.pt_children.proofs.Tying.{or_left, or_right}

-- lists ------------------------------------------------------------------------------------------

any_without : {X : Type 0} (test first : X → Bool) (xs : List X) → list_any test (without_first first xs) ≡ true → list_any test xs ≡ true
any_without test first [] h = h
any_without test first (x ∷ xs) h = by_cases (first x)
    (λ is. or_right (test x) (list_any test xs) (subst (λ (b : Bool). list_any test (cond b xs (x ∷ without_first first xs)) ≡ true) is h))
    (λ no.
    let k : list_any test (x ∷ without_first first xs) ≡ true = subst (λ (b : Bool). list_any test (cond b xs (x ∷ without_first first xs)) ≡ true) no h in
    by_cases (test x) (λ t. or_left (test x) (list_any test xs) t)
    (λ f. or_right (test x) (list_any test xs) (any_without test first xs (sym (ap (λ (b : Bool). b || list_any test (without_first first xs)) f) ∙ k))))

-- what is found passes another test
pub found_any : {X : Type 0} (test first : X → Bool) (xs : List X) (x : X) → find first xs ≡ Some x → test x ≡ true → list_any test xs ≡ true
found_any test first [] x found is = absurd (cc)
found_any test first (y ∷ xs) x found is = by_cases (first y)
    (λ fits_it.
    let here : Some y ≡ Some x = sym (ap (λ (b : Bool). cond b (Some y) (find first xs)) fits_it) ∙ found in
    let same : y ≡ x = cc in
    or_left (test y) (list_any test xs) (ap test same ∙ is))
    (λ no.
    let later : find first xs ≡ Some x = sym (ap (λ (b : Bool). cond b (Some y) (find first xs)) no) ∙ found in
    or_right (test y) (list_any test xs) (found_any test first xs x later is))

or_false : (b : Bool) → (b || false) ≡ true → b ≡ true
or_false true h = refl
or_false false h = h

any_more : {X : Type 0} (test : X → Bool) (xs : List X) (y : X) → list_any test (xs ++ y ∷ []) ≡ true → (test y ≡ true) ⊎ (list_any test xs ≡ true)
any_more test xs y h = by_cases (list_any test xs)
    (λ t. inr t)
    (λ f. inl (or_false (test y) (sym (ap (λ (b : Bool). b || (test y || false)) f) ∙ (sym (list_any-append test xs (y ∷ [])) ∙ h))))

any_take : (test : Pid → Bool) (n m : ℕ) (xs : List Pid) → n ≤ m → list_any test (take n xs) ≡ true → list_any test (take m xs) ≡ true
any_take test zero m [] l h = absurd (cc)
any_take test zero m (x ∷ xs) l h = absurd (cc)
any_take test (suc n) zero xs l h = absurd (omega (arith, l))
any_take test (suc n) (suc m) [] l h = h
any_take test (suc n) (suc m) (x ∷ xs) l h = by_cases (test x)
    (λ t. or_left (test x) (list_any test (take m xs)) t)
    (λ f. or_right (test x) (list_any test (take m xs)) (any_take test n m xs (omega (arith, l)) (sym (ap (λ (b : Bool). b || list_any test (take n xs)) f) ∙ h)))

-- of the last so many, and one more, it is the last one, or one of the others
pub one_taken : (n top : ℕ) (q p : Pid) (xs : List Pid) → list_any (same_pid q) (take (min (n + 1) top) (p ∷ xs)) ≡ true → (same_pid q p ≡ true) ⊎ (list_any (same_pid q) (take n xs) ≡ true)
one_taken n top q p xs h = go (min (n + 1) top) (omega arith) h
  where
    go : (k : ℕ) → k ≤ n + 1 → list_any (same_pid q) (take k (p ∷ xs)) ≡ true → (same_pid q p ≡ true) ⊎ (list_any (same_pid q) (take n xs) ≡ true)
    go zero l any = absurd (cc)
    go (suc k) l any = by_cases (same_pid q p)
        (λ t. inl t)
        (λ f. inr (any_take (same_pid q) k n xs (omega (arith, l)) (sym (ap (λ (b : Bool). b || list_any (same_pid q) (take k xs)) f) ∙ any)))

-- what leaves the mailbox as it is ---------------------------------------------------------------------

linked_waits : (o : Option Pid) (i : Option LinkId) (s : ProcessState) → (linked o i s).waiting ≡ s.waiting
linked_waits (Some p) (Some i) s = refl
linked_waits (Some p) None s = refl
linked_waits None i s = refl

said_waits : (s : ProcessState) (b : Pid) (x : Signal) → (say s b x).waiting ≡ s.waiting
said_waits s b (Link i) = refl
said_waits s b (Unlink ids) = refl
said_waits s b (Monitor m) = refl
said_waits s b (Demonitor m) = refl
said_waits s b _ = refl

ended_waits : (o : Option Reason) (s : ProcessState) → state_of (live_or_end o s) ≡ s
ended_waits None s = refl
ended_waits (Some r) s = refl

module _ (me q : Pid) where
  abbrev awaits : ProcessState → Bool
  awaits s = list_any (is_end_of q) s.waiting

  abbrev waits : Phase → Bool
  waits f = awaits (state_of f)

  -- an exit signal that came
  exited : (by_link traps own : Bool) (a : Pid) (r : Reason) (s : ProcessState) → awaits (obey (verdict by_link traps own a r) s).state ≡ true → (same_pid q a ≡ true) ⊎ (awaits s ≡ true)
  exited false traps own a Kill s h = inr h
  exited by_link true own a r s h = any_more (is_end_of q) s.waiting (Item.Exit a r) h
  exited by_link false false a Normal s h = inr h
  exited by_link false own a r s h = inr h

  link_exited : (known : Bool) (s : ProcessState) (a : Pid) (r : Reason) → awaits (link_exit known me s a r).state ≡ true → (same_pid q a ≡ true) ⊎ (awaits s ≡ true)
  link_exited false s a r h = inr h
  link_exited true s a r h = exited true s.traps (same_pid a me) a r _ h

  -- another item
  queued : (s : ProcessState) (item : Item) → is_end_of q item ≡ false → list_any (is_end_of q) (s.waiting ++ item ∷ []) ≡ true → awaits s ≡ true
  queued s item out h = go (any_more (is_end_of q) s.waiting item h)
    where
      go : (is_end_of q item ≡ true) ⊎ (awaits s ≡ true) → awaits s ≡ true
      go (inl t) = absurd (let bad : false ≡ true = sym out ∙ t in cc)
      go (inr w) = w

  downed : (o : Option Pid) (s : ProcessState) (a : Pid) (m : Ref) (r : Reason) → awaits (down o s a m r).state ≡ true → (same_pid q a ≡ true) ⊎ (awaits s ≡ true)
  downed None s a m r h = inr h
  downed (Some t) s a m r h = any_more (is_end_of q) s.waiting (Item.Down m a r) h

  told : (a b : Pid) (x : Signal) (s : ProcessState) → ((same : same_pid q a ≡ true) → tells_end me q (Came a b x) ≡ true) → (same_pid q a ≡ true) ⊎ (awaits s ≡ true)
      → (tells_end me q (Came a b x) ≡ true) ⊎ (awaits s ≡ true)
  told a b x s tells (inl same) = inl (tells same)
  told a b x s tells (inr w) = inr w

  got : (s : ProcessState) (a b : Pid) (x : Signal) → same_pid me b ≡ true → awaits (handle me s a x).state ≡ true → (tells_end me q (Came a b x) ≡ true) ⊎ (awaits s ≡ true)
  got s a b (Message m) here h = inr (queued s (User a m) refl h)
  got s a b (Link i) here h = inr h
  got s a b (Unlink ids) here h = inr h
  got s a b (Signal.Exit r) here h = told a b (Signal.Exit r) s (λ same n. same n && here n) (exited false s.traps (same_pid a me) a r s h)
  got s a b (LinkExit ids r) here h = told a b (LinkExit ids r) s (λ same n. same n && here n) (link_exited (holds_any (held s.links a) ids) s a r h)
  got s a b (Monitor m) here h = inr h
  got s a b (Demonitor m) here h = inr h
  got s a b (Signal.Down m r) here h = told a b (Signal.Down m r) s (λ same n. same n && here n) (downed (lookup (same_ref m) s.watching) s a m r h)
  got s a b (AliveAsk m) here h = inr h
  got s a b (AliveSay m y) here h = inr (queued s (Item.Alive m a y) refl h)

  came : (a b : Pid) (x : Signal) (f : Phase) → same_pid me b ≡ true → waits (gets me a x f) ≡ true → (tells_end me q (Came a b x) ≡ true) ⊎ (waits f ≡ true)
  came a b x unborn here h = inr h
  came a b x (living s) here h = got s a b x here (ap awaits (sym (ended_waits (handle me s a x).ending (handle me s a x).state)) ∙ h)
  came a b x (ended r s) here h = inr h

  newborn_waits : (parent : Option Pid) (link : Option LinkId) (f : Phase) → waits (newborn parent link f) ≡ true → waits f ≡ true
  newborn_waits parent link unborn h = sym (ap (λ (items : List Item). list_any (is_end_of q) items) (linked_waits parent link fresh)) ∙ h
  newborn_waits parent link (living s) h = h
  newborn_waits parent link (ended r s) h = h

  while_waits : (step : ProcessState → ProcessState) → ((s : ProcessState) → awaits (step s) ≡ true → awaits s ≡ true) → (f : Phase) → waits (while_living step f) ≡ true → waits f ≡ true
  while_waits step keeps unborn h = h
  while_waits step keeps (living s) h = keeps s h
  while_waits step keeps (ended r s) h = h

  left_waits : (r : Reason) (f : Phase) → waits (change me (Left me r) f) ≡ true → waits f ≡ true
  left_waits r unborn h = h
  left_waits r (living s) h = h
  left_waits r (ended w s) h = h

  changed : (e : Event) (f : Phase) → touches me e ≡ true → waits (change me e f) ≡ true → (tells_end me q e ≡ true) ⊎ (waits f ≡ true)
  changed (Born p parent link) f on h = inr (by_cases (same_pid me p)
      (λ is. newborn_waits parent link f (subst (λ (b : Bool). waits (cond b (newborn parent link f) (while_living (linked (Some p) link) f)) ≡ true) is h))
      (λ no. while_waits (linked (Some p) link) (λ s k. sym (ap (λ (items : List Item). list_any (is_end_of q) items) (linked_waits (Some p) link s)) ∙ k) f
      (subst (λ (b : Bool). waits (cond b (newborn parent link f) (while_living (linked (Some p) link) f)) ≡ true) no h)))
  changed (Said a b x) f on h = inr (while_waits (λ s. say s b x) (λ s k. sym (ap (λ (items : List Item). list_any (is_end_of q) items) (said_waits s b x)) ∙ k) f h)
  changed (Came a b x) f on h = came a b x f on h
  changed (Took p k i) f on h = inr (while_waits (λ s. record s { waiting = without_first (fits k) s.waiting }) (λ s any. any_without (is_end_of q) (fits k) s.waiting any) f h)
  changed (Flag p on_it) f on h = inr (while_waits (λ s. record s { traps = on_it }) (λ s k. k) f h)
  changed (Left p r) f on h = inr (left_waits r f h)
  changed (Refused a b) f on h = inr h

  step : (e : Event) (f : Phase) → waits (turned me e f) ≡ true → (tells_end me q e ≡ true) ⊎ (waits f ≡ true)
  step e f h = by_cases (touches me e)
      (λ on. changed e f on (subst (λ (b : Bool). waits (cond b (change me e f) f) ≡ true) on h))
      (λ off. inr (subst (λ (b : Bool). waits (cond b (change me e f) f) ≡ true) off h))

  -- where those that waited first had come before
  pub waits_told : (first : Past) (start : Start) → WereTold first me start → (past : Past) → waits (life start past me) ≡ true → has_told me q (past ++ first) ≡ true
  waits_told first start were [] h = were q h
  waits_told first start were (e ∷ past) h = elim (step e (life start past me) h) [
    | inl t ↦ or_left (tells_end me q e) (has_told me q (past ++ first)) t
    | inr w ↦ or_right (tells_end me q e) (has_told me q (past ++ first)) (waits_told first start were past w)
  ]

-- for one that was not there none waited
none_waits : {Y : Type 0} (q : Pid) (f : Phase) → is_unborn f ≡ true → list_any (is_end_of q) (state_of f).waiting ≡ true → Y
none_waits q unborn new h = absurd (cc)
none_waits q (living s) new h = absurd (cc)
none_waits q (ended r s) new h = absurd (cc)

pub new_told : (past : Past) (me : Pid) (start : Start) → is_unborn (at_start start me) ≡ true → WereTold past me start
new_told past me start new q waits = none_waits q (at_start start me) new waits
