-- A legal and quiet history, followed by one that is legal over its state and makes new ids, is legal.
use Rattle.std.proofs.Common.{◌≡◌, ◌+◌, inl, inr, Bool, true, false, cond, List, [], ◌∷◌, ◌++◌, Option, Some, None, map, refl, sym, ap, ◌∙◌, arith}
use Rattle.std.specs.Map.{lookup}
use Rattle.std.proofs.lemmas.Bool.{false≢true, or_parts}
use Rattle.std.specs.List.{find}
use Rattle.pt_signal.specs.declared.pid.Pid.{Pid}
use Rattle.pt_signal.specs.declared.ids.Ref.{Ref}
use Rattle.pt_signal.specs.declared.ids.LinkId.{LinkId}
use Rattle.pt_signal.specs.declared.reason.Reason.{Reason}
use Rattle.pt_signal.specs.declared.signal.Signal.{Signal}
use Rattle.pt_signal.specs.declared.signal.Signal.TheVariants.{Message, Link, Unlink, Monitor, Demonitor, AliveAsk}
use Rattle.pt_events.specs.declared.event.Event.{Event}
use Rattle.pt_events.specs.declared.event.Event.TheVariants.{Born, Said, Came, Took, Flag, Left, Refused}
use Rattle.pt_signal.specs.Values.{same_pid, same_ref, fits}
use Rattle.pt_signal.specs.Process.{ProcessState, fresh, held}
use Rattle.pt_events.specs.History.{Past, Start, Phase, unborn, living, ended, phase_or_unborn, at_start, life, after, alive, state, state_of, is_living, is_unborn, is_ended, flying, sent_by, got_sends, left_sends, is_between, made_link, made_ref, makes_link, makes_ref, May, MaySay, MayBear, IsLegal}
use Rattle.pt_events.specs.Counting.{one_if}
use Rattle.pt_laws.specs.Load.{times, IsStart, IsQuiet, pids}
use Rattle.pt_laws.specs.Resumed.{outcome, start_after, reasonless, IsNewTo, IsNewLink, AllNewTo, IsKnownAs, IsLeftBy, HasAllReasons}
use Rattle.pt_signal.proofs.Same.{same_pid_is}
use Rattle.pt_signal.specs.declared.reason.Reason.TheVariants.{Noproc}
use Rattle.pt_events.proofs.Phases.{after_ended}
use Rattle.pt_events.proofs.Forgetting.{reasonless_unborn, reasonless_ended, reasonless_living, reasonless_outcome}
use Rattle.pt_laws.proofs.lanes.Load.{born_once}

-- a pid that is listed is looked up, one that is not is none
listed : (f : Pid → Phase) (p : Pid) (ps : List Pid) → times p ps ≡ 1 → lookup (same_pid p) (map (λ q. (q, f q)) ps) ≡ Some (f p)
listed f p [] h = absurd (omega arith)
listed f p (q ∷ qs) h = go (same_pid p q) refl h (listed f p qs)
  where
    go : (b : Bool) → same_pid p q ≡ b → one_if (same_pid p q) + times p qs ≡ 1 → (times p qs ≡ 1 → lookup (same_pid p) (map (λ q. (q, f q)) qs) ≡ Some (f p))
        → lookup (same_pid p) (map (λ q. (q, f q)) (q ∷ qs)) ≡ Some (f p)
    go true e h ih = rw e (ap (λ z. Some (f z)) (sym (same_pid_is p q e)))
    go false e h ih = let k : 0 + times p qs ≡ 1 = rw e at h in rw e (ih (omega arith))

unlisted : (f : Pid → Phase) (p : Pid) (ps : List Pid) → times p ps ≡ 0 → lookup (same_pid p) (map (λ q. (q, f q)) ps) ≡ None
unlisted f p [] h = refl
unlisted f p (q ∷ qs) h = go (same_pid p q) refl h (unlisted f p qs)
  where
    go : (b : Bool) → same_pid p q ≡ b → one_if (same_pid p q) + times p qs ≡ 0 → (times p qs ≡ 0 → lookup (same_pid p) (map (λ q. (q, f q)) qs) ≡ None)
        → lookup (same_pid p) (map (λ q. (q, f q)) (q ∷ qs)) ≡ None
    go true e h ih = let k : 1 + times p qs ≡ 0 = rw e at h in absurd (omega arith)
    go false e h ih = let k : 0 + times p qs ≡ 0 = rw e at h in rw e (ih (omega arith))

is_unborn_only : (f : Phase) → is_unborn f ≡ true → f ≡ unborn
is_unborn_only unborn h = refl
is_unborn_only (living s) h = absurd (false≢true h)
is_unborn_only (ended r s) h = absurd (false≢true h)

-- an outcome -------------------------------------------------------------------------------

outcome_once : (f : Phase) → outcome (outcome f) ≡ outcome f
outcome_once unborn = refl
outcome_once (living s) = refl
outcome_once (ended r s) = refl

pub outcome_unborn : (f : Phase) → is_unborn (outcome f) ≡ is_unborn f
outcome_unborn unborn = refl
outcome_unborn (living s) = refl
outcome_unborn (ended r s) = refl

outcome_ended : (f : Phase) → is_ended (outcome f) ≡ is_ended f
outcome_ended unborn = refl
outcome_ended (living s) = refl
outcome_ended (ended r s) = refl

outcome_running : (f : Phase) → is_ended f ≡ false → outcome f ≡ f
outcome_running unborn h = refl
outcome_running (living s) h = refl
outcome_running (ended r s) h = absurd (false≢true (sym h))

pub outcome_living : (f : Phase) → is_living (outcome f) ≡ is_living f
outcome_living unborn = refl
outcome_living (living s) = refl
outcome_living (ended r s) = refl

-- one that lives, and one that was never born, are the same where all but reasons is
living_same : (f g : Phase) → reasonless f ≡ reasonless g → is_living f ≡ true → f ≡ g
living_same (living s) (living t) h l = h
living_same (living s) unborn h l = absurd (false≢true (sym (ap is_living h)))
living_same (living s) (ended r t) h l = absurd (false≢true (sym (ap is_living h)))
living_same unborn g h l = absurd (false≢true l)
living_same (ended r s) g h l = absurd (false≢true l)

unborn_same : (f g : Phase) → reasonless f ≡ reasonless g → f ≡ unborn → g ≡ unborn
unborn_same f g h e = is_unborn_only g (sym (reasonless_unborn g) ∙ ap is_unborn (sym h) ∙ reasonless_unborn f ∙ ap is_unborn e)

pub running_same : (f g : Phase) → reasonless f ≡ reasonless g → is_ended g ≡ false → f ≡ g
running_same (living s) (living t) h l = h
running_same unborn unborn h l = refl
running_same (living s) unborn h l = absurd (false≢true (sym (ap is_living h)))
running_same unborn (living s) h l = absurd (false≢true (ap is_living h))
running_same (ended r s) unborn h l = absurd (false≢true (sym (ap is_ended h)))
running_same (ended r s) (living t) h l = absurd (false≢true (sym (ap is_ended h)))
running_same f (ended r t) h l = absurd (false≢true (sym l))

after_outcome : (p : Pid) (e : Event) (f : Phase) → outcome (after p e f) ≡ outcome (after p e (outcome f))
after_outcome p e unborn = refl
after_outcome p e (living s) = refl
after_outcome p e (ended r s) = ap outcome (after_ended p e r s) ∙ ap outcome (sym (after_ended p e r fresh))

after_reasonless : (p : Pid) (e : Event) (f : Phase) → reasonless (after p e f) ≡ reasonless (after p e (reasonless f))
after_reasonless p e unborn = refl
after_reasonless p e (living s) = refl
after_reasonless p e (ended r s) = ap reasonless (after_ended p e r s) ∙ ap reasonless (sym (after_ended p e Noproc fresh))

got_reasonless : (f : Phase) (b a : Pid) (x : Signal) → got_sends f b a x ≡ got_sends (reasonless f) b a x
got_reasonless unborn b a x = refl
got_reasonless (living s) b a x = refl
got_reasonless (ended r s) b a x = refl

left_reasonless : (f : Phase) (p : Pid) (r : Reason) → left_sends f p r ≡ left_sends (reasonless f) p r
left_reasonless unborn p r = refl
left_reasonless (living s) p r = refl
left_reasonless (ended e s) p r = refl

-- one that ended stays so
pub life_over : (start : Start) (old : Past) (p : Pid) (r : Reason) (s : ProcessState) → life start old p ≡ ended r s → (new : Past) → life start (new ++ old) p ≡ ended r s
life_over start old p r s h [] = h
life_over start old p r s h (e ∷ new) = ap (after p e) (life_over start old p r s h new) ∙ after_ended p e r s

pub begun_over : (start : Start) (p : Pid) (r : Reason) (s : ProcessState) → at_start start p ≡ ended r s → (new : Past) → life start new p ≡ ended r s
begun_over start p r s h [] = h
begun_over start p r s h (e ∷ new) = ap (after p e) (begun_over start p r s h new) ∙ after_ended p e r s

-- what the start has of a process, but for the reason
known_but : (f left : Phase) → IsKnownAs f left → reasonless f ≡ reasonless left
known_but f left (inl h) = ap reasonless h ∙ reasonless_outcome left
known_but f left (inr h) = ap reasonless h ∙ twice left
  where
    twice : (f : Phase) → reasonless (reasonless f) ≡ reasonless f
    twice unborn = refl
    twice (living s) = refl
    twice (ended r s) = refl

pub known : (start : Start) (old : Past) → IsLeftBy start old → (p : Pid) → reasonless (at_start start p) ≡ reasonless (life [] old p)
known start old left p = known_but (at_start start p) (life [] old p) (left.alike p)

-- over a start that gives the outcome of a history
module _ (start again : Start) (old : Past) (begun : (p : Pid) → at_start again p ≡ outcome (life start old p)) where
  -- what it goes on to has the outcome of both histories
  pub over_outcome : (new : Past) (p : Pid) → outcome (life again new p) ≡ outcome (life start (new ++ old) p)
  over_outcome [] p = ap outcome (begun p) ∙ outcome_once (life start old p)
  over_outcome (e ∷ new) p = after_outcome p e (life again new p) ∙ ap (λ f. outcome (after p e f)) (over_outcome new p) ∙ sym (after_outcome p e (life start (new ++ old) p))

  pub over_end : (p : Pid) (r : Reason) (s : ProcessState) → life start old p ≡ ended r s → (new : Past) → life again new p ≡ ended r fresh
  over_end p r s h new = begun_over again p r fresh (begun p ∙ ap outcome h) new

  -- all but the reason of each that ended is the same
  pub all_but : (p : Pid) → reasonless (at_start again p) ≡ reasonless (life start old p)
  all_but p = ap reasonless (begun p) ∙ reasonless_outcome (life start old p)

-- over a start that gives it but for the reasons
module _ (start again : Start) (old : Past) (begun : (p : Pid) → reasonless (at_start again p) ≡ reasonless (life start old p)) where
  pub over_reasonless : (new : Past) (p : Pid) → reasonless (life again new p) ≡ reasonless (life start (new ++ old) p)
  over_reasonless [] p = begun p
  over_reasonless (e ∷ new) p =
      after_reasonless p e (life again new p) ∙ ap (λ f. reasonless (after p e f)) (over_reasonless new p) ∙ sym (after_reasonless p e (life start (new ++ old) p))

  pub over_life : (p : Pid) → is_ended (life start old p) ≡ false → (new : Past) → life again new p ≡ life start (new ++ old) p
  over_life p h [] = running_same (at_start again p) (life start old p) (begun p) h
  over_life p h (e ∷ new) = ap (after p e) (over_life p h new)

  -- one that lives is the same
  pub over_living : (new : Past) (p : Pid) → alive again new p ≡ true → life again new p ≡ life start (new ++ old) p
  over_living new p h = living_same _ _ (over_reasonless new p) h

  -- whether it lives, was born, and has ended, is the same
  pub over_alive : (new : Past) (p : Pid) → alive again new p ≡ alive start (new ++ old) p
  over_alive new p = sym (reasonless_living _) ∙ ap is_living (over_reasonless new p) ∙ reasonless_living _

  pub over_unborn : (new : Past) (p : Pid) → is_unborn (life again new p) ≡ is_unborn (life start (new ++ old) p)
  over_unborn new p = sym (reasonless_unborn _) ∙ ap is_unborn (over_reasonless new p) ∙ reasonless_unborn _

  pub over_ended : (new : Past) (p : Pid) → is_ended (life again new p) ≡ is_ended (life start (new ++ old) p)
  over_ended new p = sym (reasonless_ended _) ∙ ap is_ended (over_reasonless new p) ∙ reasonless_ended _

module _ (start again : Start) (old : Past) (legal : IsLegal start old) (quiet : IsQuiet start old) (begun : (p : Pid) → reasonless (at_start again p) ≡ reasonless (life start old p)) where
  same_sent : (new : Past) (e : Event) → sent_by again new e ≡ sent_by start (new ++ old) e
  same_sent new (Came a b x) = got_reasonless _ b a x ∙ ap (λ f. got_sends f b a x) (over_reasonless start again old begun new b) ∙ sym (got_reasonless _ b a x)
  same_sent new (Left p r) = left_reasonless _ p r ∙ ap (λ f. left_sends f p r) (over_reasonless start again old begun new p) ∙ sym (left_reasonless _ p r)
  same_sent new (Said a b x) = refl
  same_sent new _ = refl

  pub over_flying : (new : Past) → flying again new ≡ flying start (new ++ old)
  over_flying [] = sym quiet
  over_flying (e ∷ new) = rw (over_flying new, same_sent new e) refl

  made_link_both : (new : Past) (i : LinkId) → made_link new i ≡ false → made_link old i ≡ false → made_link (new ++ old) i ≡ false
  made_link_both [] i h k = k
  made_link_both (e ∷ new) i h k = let q = or_parts (makes_link i e) (made_link new i) h in rw (q.0, made_link_both new i q.1 k) refl

  made_ref_both : (new : Past) (m : Ref) → made_ref new m ≡ false → made_ref old m ≡ false → made_ref (new ++ old) m ≡ false
  made_ref_both [] m h k = k
  made_ref_both (e ∷ new) m h k = let q = or_parts (makes_ref m e) (made_ref new m) h in rw (q.0, made_ref_both new m q.1 k) refl

  same_say : (new : Past) (a b : Pid) (x : Signal) → life again new a ≡ life start (new ++ old) a → IsNewTo old (Said a b x) → MaySay again new (state again new a) a b x → MaySay start (new ++ old) (state start (new ++ old) a) a b x
  same_say new a b (Message body) l n h = tt
  same_say new a b (Signal.Exit r) l n h = tt
  same_say new a b (Link i) l n h = (made_link_both new i h.0 n, ap (λ f. held (state_of f).links b) (sym l) ∙ h.1, h.2)
  same_say new a b (Unlink ids) l n h = ap (λ f. held (state_of f).links b) (sym l) ∙ h
  same_say new a b (Monitor m) l n h = (made_ref_both new m h.0 n, h.1)
  same_say new a b (Demonitor m) l n h = ap (λ f. lookup (same_ref m) (state_of f).watching) (sym l) ∙ h
  same_say new a b (AliveAsk m) l n h = made_ref_both new m h n
  same_say new a b _ l n h = h

  same_alive : (new : Past) (p : Pid) → alive again new p ≡ true → alive start (new ++ old) p ≡ true
  same_alive new p h = sym (over_alive start again old begun new p) ∙ h

  same_bear : (new : Past) (parent : Option Pid) (link : Option LinkId) → IsNewLink old link → MayBear again new parent link → MayBear start (new ++ old) parent link
  same_bear new None None n h = tt
  same_bear new None (Some i) n h = h
  same_bear new (Some q) None n h = same_alive new q h
  same_bear new (Some q) (Some i) n h = (same_alive new q h.0, made_link_both new i h.1 n)

  same_may : (new : Past) (e : Event) → IsNewTo old e → May again new e → May start (new ++ old) e
  same_may new (Born p parent link) n h = (unborn_same _ _ (over_reasonless start again old begun new p) h.0, same_bear new parent link n h.1)
  same_may new (Said a b x) n h = (same_alive new a h.0, same_say new a b x (over_living start again old begun new a h.0) n h.1)
  same_may new (Came a b x) n h = ap (find (is_between a b)) (sym (over_flying new)) ∙ h
  same_may new (Took p k i) n h = (same_alive new p h.0, ap (λ f. find (fits k) (state_of f).waiting) (sym (over_living start again old begun new p h.0)) ∙ h.1)
  same_may new (Flag p on) n h = same_alive new p h
  same_may new (Left p r) n h = same_alive new p h
  same_may new (Refused a b) n h = (same_alive new a h.0, sym (over_ended start again old begun new b) ∙ h.1)

  pub over_legal : (new : Past) → AllNewTo old new → IsLegal again new → IsLegal start (new ++ old)
  over_legal [] n h = legal
  over_legal (e ∷ new) n h = (same_may new e n.0 h.0, over_legal new n.1 h.1)

module _ (start : Start) (ok : IsStart start) (old : Past) where
  -- the start state gives the outcome of the history
  pub started : (p : Pid) → at_start (start_after start old) p ≡ outcome (life start old p)
  started p = go (is_unborn (life start old p)) refl (born_once start ok old p)
    where
      go : (b : Bool) → is_unborn (life start old p) ≡ b → times p (pids start old) ≡ cond (is_unborn (life start old p)) 0 1 → at_start (start_after start old) p ≡ outcome (life start old p)
      go true e k =
          let z : times p (pids start old) ≡ 0 = rw e at k in
          ap phase_or_unborn (unlisted (λ q. outcome (life start old q)) p (pids start old) z) ∙ ap outcome (sym (is_unborn_only (life start old p) e))
      go false e k = let z : times p (pids start old) ≡ 1 = rw e at k in ap phase_or_unborn (listed (λ q. outcome (life start old q)) p (pids start old) z)

  started_but : (p : Pid) → reasonless (at_start (start_after start old) p) ≡ reasonless (life start old p)
  started_but = all_but start (start_after start old) old started

  pub same_outcome : (new : Past) (p : Pid) → outcome (life (start_after start old) new p) ≡ outcome (life start (new ++ old) p)
  same_outcome = over_outcome start (start_after start old) old started

  pub same_unborn_is : (new : Past) (p : Pid) → is_unborn (life (start_after start old) new p) ≡ is_unborn (life start (new ++ old) p)
  same_unborn_is = over_unborn start (start_after start old) old started_but

  pub same_life : (p : Pid) → is_ended (life start old p) ≡ false → (new : Past) → life (start_after start old) new p ≡ life start (new ++ old) p
  same_life = over_life start (start_after start old) old started_but

  pub same_end : (p : Pid) (r : Reason) (s : ProcessState) → life start old p ≡ ended r s → (new : Past) → life (start_after start old) new p ≡ ended r fresh
  same_end = over_end start (start_after start old) old started

  pub same_flying : IsLegal start old → IsQuiet start old → (new : Past) → flying (start_after start old) new ≡ flying start (new ++ old)
  same_flying legal quiet = over_flying start (start_after start old) old legal quiet started_but

  pub resumed : IsLegal start old → IsQuiet start old → (new : Past) → AllNewTo old new → IsLegal (start_after start old) new → IsLegal start (new ++ old)
  resumed legal quiet = over_legal start (start_after start old) old legal quiet started_but

-- every history is new to the empty one
pub all_new : (past : Past) → AllNewTo [] past
all_new [] = tt
all_new (e ∷ past) = (new_to e, all_new past)
  where
    new_link : (link : Option LinkId) → IsNewLink [] link
    new_link None = tt
    new_link (Some i) = refl

    new_to : (e : Event) → IsNewTo [] e
    new_to (Born p parent link) = new_link link
    new_to (Said a b (Link i)) = refl
    new_to (Said a b (Monitor m)) = refl
    new_to (Said a b (AliveAsk m)) = refl
    new_to _ = tt

-- a start that was left behind leaves one again
left_of : (start : Start) (old : Past) → IsLeftBy start old → (new : Past) (p : Pid) → IsKnownAs (outcome (life start new p)) (life [] (new ++ old) p)
left_of start old left new p = go (life [] old p) refl (left.alike p)
  where
    go : (f : Phase) → life [] old p ≡ f → IsKnownAs (at_start start p) (life [] old p) → IsKnownAs (outcome (life start new p)) (life [] (new ++ old) p)
    go unborn e k = inl (ap outcome (over_life [] start old (known start old left) p (ap is_ended e) new))
    go (living s) e k = inl (ap outcome (over_life [] start old (known start old left) p (ap is_ended e) new))
    go (ended r s) e (inl k) = inl (ap outcome (begun_over start p r fresh (k ∙ ap outcome e) new) ∙ sym (ap outcome (life_over [] old p r s e new)))
    go (ended r s) e (inr k) = inr (ap outcome (begun_over start p Noproc fresh (k ∙ ap reasonless e) new) ∙ sym (ap reasonless (life_over [] old p r s e new)))

pub left_again : (start : Start) (old new : Past) → IsStart start → IsLeftBy start old → AllNewTo old new → IsLegal start new → IsQuiet start new
    → IsLeftBy (start_after start new) (new ++ old)
left_again start old new ok left fresh legal quiet = record {
  legal = over_legal [] start old left.legal left.quiet (known start old left) new fresh legal;
  quiet = sym (over_flying [] start old left.legal left.quiet (known start old left) new) ∙ quiet;
  alike = λ p. elim (left_of start old left new p) [ inl h ↦ inl (started start ok new p ∙ h) | inr h ↦ inr (started start ok new p ∙ h) ];
}

-- with all reasons, where none was forgotten
pub reasons_stay : (start : Start) (old new : Past) → IsStart start → HasAllReasons start old → HasAllReasons (start_after start new) (new ++ old)
reasons_stay start old new ok all p = started start ok new p ∙ over_outcome [] start old all new p
