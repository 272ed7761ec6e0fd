-- What a judge finds that knows of a history what its rest tells.
use Rattle.std.proofs.Common.{◌≡◌, ℕ, Bool, true, false, not, cond, ◌&&◌, ◌||◌, Option, Some, None, is_some, is_none, [], ◌∷◌, ◌++◌, refl, ap, ap₂, sym, ◌∙◌, subst}
use Rattle.std.specs.List.{find, list_any}
use Rattle.std.specs.Map.{lookup}
use Rattle.std.specs.Option.{option_map}
use Rattle.std.proofs.lemmas.Bool.{both_ways}
use Rattle.pt_signal.specs.declared.pid.Pid.{Pid}
use Rattle.pt_signal.specs.declared.ids.LinkId.{LinkId}
use Rattle.pt_signal.specs.declared.ids.Ref.{Ref}
use Rattle.pt_signal.specs.declared.item.Pick.{Pick}
use Rattle.pt_signal.specs.declared.item.Item.{Item}
use Rattle.pt_signal.specs.declared.reason.Reason.{Reason}
use Rattle.pt_signal.specs.declared.signal.Signal.{Signal}
use Rattle.pt_signal.specs.declared.signal.Signal.TheVariants.{Message, Link, Unlink, LinkExit, Monitor, Demonitor, AliveAsk, AliveSay}
use Rattle.pt_signal.specs.Process.{ProcessState, handle, held, bounce}
use Rattle.pt_signal.specs.Values.{same_pid, same_ref, same_link, fits}
use Rattle.pt_signal.proofs.Same.{same_pid_refl}
use Rattle.pt_events.proofs.Handling.{living_answer, handle_answer}
use Rattle.pt_events.specs.declared.event.Event.{Event}
use Rattle.pt_events.specs.declared.event.Event.TheVariants.{Born, Said, Came, Took, Flag, Left, Refused}
use Rattle.pt_events.specs.declared.event.Stamped.{Stamped}
use Rattle.pt_events.specs.History.{Past, Phase, unborn, living, ended, is_living, is_unborn, is_ended, is_the, is_between, after, touches, linked, newborn, while_living, live_or_end, reason_of, state_of, end_sends, got_sends, left_sends, landed, life, flying, sent_by, makes_link, makes_ref, made_link, made_ref, May}
use Rattle.pt_events.specs.Journal.{IsNewAt}
use Rattle.pt_events.specs.Leaving.{outcome}
use Rattle.pt_judge.specs.declared.cause.Cause.{Cause}
use Rattle.pt_judge.specs.declared.cause.Cause.TheVariants.{BornTwice, NotAlive, NotFront, NotFirstMatch, Unlawful}
use Rattle.pt_judge.specs.Judging.{JudgeState, Known, now_is, known_state, known_after, cause, may_say, lacks, unlawful_link, is_item, is_ids, is_signal, answered, lived, judge_sends, IsStep}
use Rattle.pt_judge.specs.Judge.{IsCause, IsJudged}
use Rattle.pt_judge.proofs.Judged.{judged}
use Rattle.pt_auditor.specs.declared.objection.Contradiction.{Contradiction}
use Rattle.pt_auditor.specs.Standings.{standing_of, waiting_of}
use Rattle.pt_auditor.specs.Objecting.{contradiction, dead, actor_of_event}
use Rattle.pt_auditor.specs.Hearings.{IsAfterRest, is_late}

-- phases that differ by no more than what an ended process held ------------------------------

living_out : (f : Phase) → is_living (outcome f) ≡ is_living f
living_out unborn = refl
living_out (living s) = refl
living_out (ended r s) = refl

unborn_out : (f : Phase) → is_unborn (outcome f) ≡ is_unborn f
unborn_out unborn = refl
unborn_out (living s) = refl
unborn_out (ended r s) = refl

reason_out : (f : Phase) → reason_of (outcome f) ≡ reason_of f
reason_out unborn = refl
reason_out (living s) = refl
reason_out (ended r s) = refl

ended_out : (f : Phase) → is_ended (outcome f) ≡ is_ended f
ended_out unborn = refl
ended_out (living s) = refl
ended_out (ended r s) = refl

living_whole : (f : Phase) → is_living f ≡ true → outcome f ≡ f
living_whole unborn h = absurd (cc)
living_whole (living s) h = refl
living_whole (ended r s) h = absurd (cc)

module _ (f g : Phase) (same : outcome f ≡ outcome g) where
  pub same_living : is_living f ≡ is_living g
  same_living = sym (living_out f) ∙ ap is_living same ∙ living_out g

  pub same_unborn : is_unborn f ≡ is_unborn g
  same_unborn = sym (unborn_out f) ∙ ap is_unborn same ∙ unborn_out g

  pub same_reason : reason_of f ≡ reason_of g
  same_reason = sym (reason_out f) ∙ ap reason_of same ∙ reason_out g

  pub same_ended : is_ended f ≡ is_ended g
  same_ended = sym (ended_out f) ∙ ap is_ended same ∙ ended_out g

  pub same_whole : is_living f ≡ true → f ≡ g
  same_whole h = sym (living_whole f h) ∙ same ∙ living_whole g (sym same_living ∙ h)

-- what became of a process does not tell what it held at its end
waiting_out : (f : Phase) → waiting_of (outcome f) ≡ waiting_of f
waiting_out unborn = refl
waiting_out (living s) = refl
waiting_out (ended r s) = refl

pub same_standing : (p : Pid) (f g : Phase) → outcome f ≡ outcome g → standing_of p f ≡ standing_of p g
same_standing p f g h = ap₂ (λ r n. record { pid = p; ended = r; waiting = n }) (same_reason f g h) (sym (waiting_out f) ∙ ap waiting_of h ∙ waiting_out g)

-- one event more -------------------------------------------------------------------------------

after_end : (p : Pid) (e : Event) (r : Reason) (s : ProcessState) → after p e (ended r s) ≡ ended r s
after_end p (Born q parent link) r s = go (touches p (Born q parent link)) (same_pid p q)
  where
    go : (b c : Bool) → cond b (cond c (newborn parent link (ended r s)) (while_living (linked (Some q) link) (ended r s))) (ended r s) ≡ ended r s
    go true true = refl
    go true false = refl
    go false c = refl
after_end p (Said a b x) r s = go (same_pid p a)
  where
    go : (c : Bool) → cond c (ended r s) (ended r s) ≡ ended r s
    go true = refl
    go false = refl
after_end p (Came a b x) r s = go (same_pid p b)
  where
    go : (c : Bool) → cond c (ended r s) (ended r s) ≡ ended r s
    go true = refl
    go false = refl
after_end p (Took q k i) r s = go (same_pid p q)
  where
    go : (c : Bool) → cond c (ended r s) (ended r s) ≡ ended r s
    go true = refl
    go false = refl
after_end p (Flag q on) r s = go (same_pid p q)
  where
    go : (c : Bool) → cond c (ended r s) (ended r s) ≡ ended r s
    go true = refl
    go false = refl
after_end p (Left q w) r s = go (same_pid p q)
  where
    go : (c : Bool) → cond c (ended r s) (ended r s) ≡ ended r s
    go true = refl
    go false = refl
after_end p (Refused a b) r s = refl

after_same : (p : Pid) (e : Event) (f g : Phase) → outcome f ≡ outcome g → outcome (after p e f) ≡ outcome (after p e g)
after_same p e unborn unborn h = refl
after_same p e unborn (living t) h = absurd (cc)
after_same p e unborn (ended w t) h = absurd (cc)
after_same p e (living s) g h = ap (λ z. outcome (after p e z)) (same_whole (living s) g h refl)
after_same p e (ended r s) unborn h = absurd (cc)
after_same p e (ended r s) (living t) h = absurd (cc)
after_same p e (ended r s) (ended w t) h = ap outcome (after_end p e r s) ∙ h ∙ ap outcome (sym (after_end p e w t))

end_sent : (p : Pid) (o : Option Reason) (s : ProcessState) → end_sends p (reason_of (live_or_end o s)) (state_of (live_or_end o s)) ≡ end_sends p o s
end_sent p None s = refl
end_sent p (Some r) s = refl

answer_sent : (b a : Pid) (x : Signal) → answered b a x ≡ living_answer b a x
answer_sent b a (AliveAsk m) = refl
answer_sent b a _ = refl

came_sent : (a b : Pid) (x : Signal) (f g h : Phase) → outcome f ≡ outcome g → h ≡ after b (Came a b x) f
    → cond (is_living f) (answered b a x ++ end_sends b (reason_of h) (state_of h)) (bounce b a x) ≡ got_sends g b a x
came_sent a b x unborn unborn h o e = refl
came_sent a b x unborn (living t) h o e = absurd (cc)
came_sent a b x unborn (ended w t) h o e = refl
came_sent a b x (ended r s) unborn h o e = refl
came_sent a b x (ended r s) (living t) h o e = absurd (cc)
came_sent a b x (ended r s) (ended w t) h o e = refl
came_sent a b x (living s) g h o e =
    subst (λ z. answered b a x ++ end_sends b (reason_of h) (state_of h) ≡ got_sends z b a x) (same_whole (living s) g o refl)
    (subst (λ z. answered b a x ++ end_sends b (reason_of z) (state_of z) ≡ got_sends (living s) b a x) (sym e)
    (rw (same_pid_refl b) (ap₂ (λ y z. y ++ z) (answer_sent b a x ∙ sym (handle_answer b s a x)) (end_sent b (handle b s a x).ending (handle b s a x).state))))

left_sent : (p : Pid) (r : Reason) (f g h : Phase) → outcome f ≡ outcome g → h ≡ after p (Left p r) f
    → cond (is_living f) (end_sends p (reason_of h) (state_of h)) [] ≡ left_sends g p r
left_sent p r unborn unborn h o e = refl
left_sent p r unborn (living t) h o e = absurd (cc)
left_sent p r unborn (ended w t) h o e = refl
left_sent p r (ended v s) unborn h o e = refl
left_sent p r (ended v s) (living t) h o e = absurd (cc)
left_sent p r (ended v s) (ended w t) h o e = refl
left_sent p r (living s) g h o e =
    subst (λ z. end_sends p (reason_of h) (state_of h) ≡ left_sends z p r) (same_whole (living s) g o refl)
    (subst (λ z. end_sends p (reason_of z) (state_of z) ≡ left_sends (living s) p r) (sym e) (rw (same_pid_refl p) refl))

or_known : (b c d : Bool) → (c ≡ true → d ≡ true) → (b || c) ≡ true → (b || d) ≡ true
or_known true c d h k = refl
or_known false c d h k = h k

module _ (since : Option Stamped) (past : Past) (old new : JudgeState) (k : IsAfterRest since past old) where
  sent_next : (e : Event) → IsStep old e new → judge_sends new.lives (lived old.lives e) e ≡ sent_by [] past e
  sent_next (Came a b x) t = came_sent a b x (now_is old b) (life [] past b) (now_is new b) (k.alike b) (t.lives b)
  sent_next (Left p r) t = left_sent p r (now_is old p) (life [] past p) (now_is new p) (k.alike p) (t.lives p)
  sent_next _ t = refl

  pub after_next : (e : Event) → IsStep old e new → IsAfterRest since (e ∷ past) new
  after_next e t = record {
    links_made = λ i l. t.links i ∙ ap (λ b. makes_link i e || b) (k.links_made i l);
    links_only = λ i h. or_known (makes_link i e) (list_any (same_link i) old.links) (made_link past i) (k.links_only i) (sym (t.links i) ∙ h);
    refs_made = λ m l. t.refs m ∙ ap (λ b. makes_ref m e || b) (k.refs_made m l);
    refs_only = λ m h. or_known (makes_ref m e) (list_any (same_ref m) old.refs) (made_ref past m) (k.refs_only m) (sym (t.refs m) ∙ h);
    alike = λ p. ap outcome (t.lives p) ∙ after_same p e (now_is old p) (life [] past p) (k.alike p);
    flies = t.flights ∙ ap (λ z. landed e z ++ judge_sends new.lives (lived old.lives e) e) k.flies ∙ ap (λ z. landed e (flying [] past) ++ z) (sent_next e t);
  }

-- the same causes --------------------------------------------------------------------------------

-- what the event makes was made before, or was not, by both
abbrev pub SameMade : Known → Known → Event → Type 0
SameMade k l (Born p parent (Some i)) = k.links i ≡ l.links i
SameMade k l (Said a b (Link i)) = k.links i ≡ l.links i
SameMade k l (Said a b (Monitor m)) = k.refs m ≡ l.refs m
SameMade k l (Said a b (AliveAsk m)) = k.refs m ≡ l.refs m
SameMade k l _ = Unit {0}

cond_same : {X : Type 0} (c d : Bool) (x y z : X) → c ≡ d → (c ≡ true → x ≡ y) → cond c x z ≡ cond d y z
cond_same true true x y z e h = h refl
cond_same true false x y z e h = absurd (cc)
cond_same false true x y z e h = absurd (cc)
cond_same false false x y z e h = refl

-- what is refused stays refused where more was made
fewer : (x y : Bool) (r : Bool) → (x ≡ true → y ≡ true) → (not x && r) ≡ false → (not y && r) ≡ false
fewer x true r h k = refl
fewer true false r h k = absurd (both_ways false refl (h refl))
fewer false false r h k = k

fewer_both : (x y r q : Bool) → (x ≡ true → y ≡ true) → (not x && r && q) ≡ false → (not y && r && q) ≡ false
fewer_both x true r q h k = refl
fewer_both true false r q h k = absurd (both_ways false refl (h refl))
fewer_both false false r q h k = k

module _ (k l : Known) (alike : (p : Pid) → outcome (k.is p) ≡ outcome (l.is p)) (flies : k.flights ≡ l.flights) where
  say_same : (a b : Pid) (x : Signal) → SameMade k l (Said a b x) → k.is a ≡ l.is a → may_say k a b x ≡ may_say l a b x
  say_same a b (Message body) m e = refl
  say_same a b (Signal.Exit r) m e = refl
  say_same a b (Link i) m e = ap₂ (λ u f. not u && is_none (held (state_of f).links b) && not (same_pid a b)) m e
  say_same a b (Unlink ids) m e = ap (λ f. is_ids (held (state_of f).links b) ids) e
  say_same a b (Monitor r) m e = ap (λ u. not u && not (same_pid a b)) m
  say_same a b (Demonitor r) m e = ap (λ f. is_the b (lookup (same_ref r) (state_of f).watching)) e
  say_same a b (LinkExit ids r) m e = refl
  say_same a b (Signal.Down r w) m e = refl
  say_same a b (AliveAsk r) m e = ap not m
  say_same a b (AliveSay r x) m e = refl

  lacks_same : (parent : Option Pid) → lacks k parent ≡ lacks l parent
  lacks_same None = refl
  lacks_same (Some q) = ap not (same_living (k.is q) (l.is q) (alike q))

  unlawful_same : (p : Pid) (parent : Option Pid) (link : Option LinkId) → SameMade k l (Born p parent link) → unlawful_link k parent link ≡ unlawful_link l parent link
  unlawful_same p parent None m = refl
  unlawful_same p None (Some i) m = refl
  unlawful_same p (Some q) (Some i) m = m

  pub cause_same : (e : Event) → SameMade k l e → cause k e ≡ cause l e
  cause_same (Born p parent link) m =
      cond_same (is_unborn (k.is p)) (is_unborn (l.is p)) _ _ (Some BornTwice) (same_unborn (k.is p) (l.is p) (alike p))
      (λ _. ap₂ (λ u v. cond u (Some NotAlive) (cond v (Some Unlawful) None)) (lacks_same parent) (unlawful_same p parent link m))
  cause_same (Said a b x) m =
      cond_same (is_living (k.is a)) (is_living (l.is a)) _ _ (Some NotAlive) (same_living (k.is a) (l.is a) (alike a))
      (λ on. ap (λ z. cond z None (Some Unlawful)) (say_same a b x m (same_whole (k.is a) (l.is a) (alike a) on)))
  cause_same (Came a b x) m = ap (λ z. cond (is_signal (option_map (λ f. f.signal) (find (is_between a b) z)) x) None (Some NotFront)) flies
  cause_same (Took p j i) m =
      cond_same (is_living (k.is p)) (is_living (l.is p)) _ _ (Some NotAlive) (same_living (k.is p) (l.is p) (alike p))
      (λ on. ap (λ f. cond (is_item (find (fits j) (state_of f).waiting) i) None (Some NotFirstMatch)) (same_whole (k.is p) (l.is p) (alike p) on))
  cause_same (Flag p on) m = ap (λ z. cond z None (Some NotAlive)) (same_living (k.is p) (l.is p) (alike p))
  cause_same (Left p r) m = ap (λ z. cond z None (Some NotAlive)) (same_living (k.is p) (l.is p) (alike p))
  cause_same (Refused a b) m =
      cond_same (is_living (k.is a)) (is_living (l.is a)) _ _ (Some NotAlive) (same_living (k.is a) (l.is a) (alike a))
      (λ _. ap (λ o. cond (is_some o) None (Some Unlawful)) (same_reason (k.is b) (l.is b) (alike b)))

  module _ (links : (i : LinkId) → k.links i ≡ true → l.links i ≡ true) (refs : (m : Ref) → k.refs m ≡ true → l.refs m ≡ true) where
    say_refused : (a b : Pid) (x : Signal) → k.is a ≡ l.is a → may_say k a b x ≡ false → may_say l a b x ≡ false
    say_refused a b (Message body) e h = h
    say_refused a b (Signal.Exit r) e h = h
    say_refused a b (Link i) e h =
        fewer_both (k.links i) (l.links i) (is_none (held (state_of (l.is a)).links b)) (not (same_pid a b)) (links i)
        (subst (λ f. (not (k.links i) && is_none (held (state_of f).links b) && not (same_pid a b)) ≡ false) e h)
    say_refused a b (Unlink ids) e h = subst (λ f. is_ids (held (state_of f).links b) ids ≡ false) e h
    say_refused a b (Monitor r) e h = fewer (k.refs r) (l.refs r) (not (same_pid a b)) (refs r) h
    say_refused a b (Demonitor r) e h = subst (λ f. is_the b (lookup (same_ref r) (state_of f).watching) ≡ false) e h
    say_refused a b (LinkExit ids r) e h = h
    say_refused a b (Signal.Down r w) e h = h
    say_refused a b (AliveAsk r) e h = asked (k.refs r) (l.refs r) (refs r) h
      where
        asked : (x y : Bool) → (x ≡ true → y ≡ true) → not x ≡ false → not y ≡ false
        asked true y f g = ap not (f refl)
        asked false y f g = absurd (cc)
    say_refused a b (AliveSay r x) e h = h

    refused : (c d m n : Bool) (w : Cause) → c ≡ d → (c ≡ true → m ≡ false → n ≡ false)
        → cond c (cond m None (Some Unlawful)) (Some NotAlive) ≡ Some w → cond d (cond n None (Some Unlawful)) (Some NotAlive) ≡ Some w
    refused true true true n w e h f = absurd (cc)
    refused true true false n w e h f = ap (λ z. cond z None (Some Unlawful)) (h refl refl) ∙ f
    refused true false m n w e h f = absurd (cc)
    refused false true m n w e h f = absurd (cc)
    refused false false m n w e h f = f

    unlawful_more : (parent : Option Pid) (link : Option LinkId) → unlawful_link k parent link ≡ true → unlawful_link l parent link ≡ true
    unlawful_more parent None h = h
    unlawful_more None (Some i) h = h
    unlawful_more (Some q) (Some i) h = links i h

    born_more : (u v : Bool) (b : Bool) (w : Cause) → (u ≡ true → v ≡ true)
        → cond b (Some NotAlive) (cond u (Some Unlawful) None) ≡ Some w → cond b (Some NotAlive) (cond v (Some Unlawful) None) ≡ Some w
    born_more u v true w h f = f
    born_more true v false w h f = ap (λ z. cond z (Some Unlawful) None) (h refl) ∙ f
    born_more false v false w h f = absurd (cc)

    born_refused : (b c u v m n : Bool) (w : Cause) → b ≡ c → u ≡ v → (m ≡ true → n ≡ true)
        → cond b (cond u (Some NotAlive) (cond m (Some Unlawful) None)) (Some BornTwice) ≡ Some w
        → cond c (cond v (Some NotAlive) (cond n (Some Unlawful) None)) (Some BornTwice) ≡ Some w
    born_refused true true u v m n w e f h g = subst (λ z. cond z (Some NotAlive) (cond n (Some Unlawful) None) ≡ Some w) f (born_more m n u w h g)
    born_refused true false u v m n w e f h g = absurd (cc)
    born_refused false true u v m n w e f h g = absurd (cc)
    born_refused false false u v m n w e f h g = g

    -- a cause that is found is the one of the whole history
    pub cause_more : (e : Event) (w : Cause) → cause k e ≡ Some w → cause l e ≡ Some w
    cause_more (Born p parent link) w h =
        born_refused (is_unborn (k.is p)) (is_unborn (l.is p)) (lacks k parent) (lacks l parent) (unlawful_link k parent link) (unlawful_link l parent link) w
        (same_unborn (k.is p) (l.is p) (alike p)) (lacks_same parent) (unlawful_more parent link) h
    cause_more (Said a b x) w h =
        refused (is_living (k.is a)) (is_living (l.is a)) (may_say k a b x) (may_say l a b x) w (same_living (k.is a) (l.is a) (alike a))
        (λ on. say_refused a b x (same_whole (k.is a) (l.is a) (alike a) on)) h
    cause_more (Came a b x) w h = sym (cause_same (Came a b x) tt) ∙ h
    cause_more (Took p j i) w h = sym (cause_same (Took p j i) tt) ∙ h
    cause_more (Flag p on) w h = sym (cause_same (Flag p on) tt) ∙ h
    cause_more (Left p r) w h = sym (cause_same (Left p r) tt) ∙ h
    cause_more (Refused a b) w h = sym (cause_same (Refused a b) tt) ∙ h

  dead_same : (o : Option Pid) → dead k o ≡ dead l o
  dead_same None = refl
  dead_same (Some p) = ap (Contradiction.Dead p) (same_reason (k.is p) (l.is p) (alike p))

  first_same : (f g : Phase) (p : Pid) (j : Pick) (i : Item) → outcome f ≡ outcome g → cond (is_living f) (cond (is_item (find (fits j) (state_of f).waiting) i) None (Some NotFirstMatch)) (Some NotAlive) ≡ Some NotFirstMatch
      → find (fits j) (state_of f).waiting ≡ find (fits j) (state_of g).waiting
  first_same (living s) g p j i o h = ap (λ z. find (fits j) (state_of z).waiting) (same_whole (living s) g o refl)
  first_same unborn g p j i o h = absurd (cc)
  first_same (ended r s) g p j i o h = absurd (cc)

  -- and so is what the event contradicts
  pub contradiction_same : (e : Event) (w : Cause) → cause k e ≡ Some w → contradiction k e w ≡ contradiction l e w
  contradiction_same (Came a b x) NotFront h = ap (λ z. Contradiction.Oldest (option_map (λ f. f.signal) (find (is_between a b) z))) flies
  contradiction_same (Took p j i) NotFirstMatch h = ap Contradiction.First (first_same (k.is p) (l.is p) p j i (alike p) h)
  contradiction_same e NotAlive h = dead_same (actor_of_event e)
  contradiction_same e w h = refl

-- over what a rest tells -----------------------------------------------------------------------

module _ (since : Option Stamped) (past : Past) (s : JudgeState) (k : IsAfterRest since past s) where
  -- the event makes no id and no reference that is older than the rest
  abbrev pub MakesLate : Event → Type 0
  MakesLate (Born p parent (Some i)) = is_late since i.desk i.number ≡ true
  MakesLate (Said a b (Link i)) = is_late since i.desk i.number ≡ true
  MakesLate (Said a b (Monitor m)) = is_late since m.desk m.number ≡ true
  MakesLate (Said a b (AliveAsk m)) = is_late since m.desk m.number ≡ true
  MakesLate _ = Unit {0}

  same_made : (e : Event) → MakesLate e → SameMade (known_state s) (known_after [] past) e
  same_made (Born p parent None) h = tt
  same_made (Born p parent (Some i)) h = k.links_made i h
  same_made (Said a b (Message body)) h = tt
  same_made (Said a b (Signal.Exit r)) h = tt
  same_made (Said a b (Link i)) h = k.links_made i h
  same_made (Said a b (Unlink ids)) h = tt
  same_made (Said a b (Monitor m)) h = k.refs_made m h
  same_made (Said a b (Demonitor m)) h = tt
  same_made (Said a b (LinkExit ids r)) h = tt
  same_made (Said a b (Signal.Down m r)) h = tt
  same_made (Said a b (AliveAsk m)) h = k.refs_made m h
  same_made (Said a b (AliveSay m x)) h = tt
  same_made (Came a b x) h = tt
  same_made (Took p j i) h = tt
  same_made (Flag p on) h = tt
  same_made (Left p r) h = tt
  same_made (Refused a b) h = tt

  -- what is named by desk and stamp is as late as its event
  pub named_late : (d n : ℕ) (e : Event) → is_late since d n ≡ true → IsNewAt d n e → MakesLate e
  named_late d n (Born p parent None) h w = tt
  named_late d n (Born p parent (Some i)) h w = ap₂ (is_late since) w.0 w.1 ∙ h
  named_late d n (Said a b (Message body)) h w = tt
  named_late d n (Said a b (Signal.Exit r)) h w = tt
  named_late d n (Said a b (Link i)) h w = ap₂ (is_late since) w.0 w.1 ∙ h
  named_late d n (Said a b (Unlink ids)) h w = tt
  named_late d n (Said a b (Monitor m)) h w = ap₂ (is_late since) w.0 w.1 ∙ h
  named_late d n (Said a b (Demonitor m)) h w = tt
  named_late d n (Said a b (LinkExit ids r)) h w = tt
  named_late d n (Said a b (Signal.Down m r)) h w = tt
  named_late d n (Said a b (AliveAsk m)) h w = ap₂ (is_late since) w.0 w.1 ∙ h
  named_late d n (Said a b (AliveSay m x)) h w = tt
  named_late d n (Came a b x) h w = tt
  named_late d n (Took p j i) h w = tt
  named_late d n (Flag p on) h w = tt
  named_late d n (Left p r) h w = tt
  named_late d n (Refused a b) h w = tt

  -- an event for which no cause is found may come next, if what it makes is not older than the rest
  pub may_come : (e : Event) → MakesLate e → cause (known_state s) e ≡ None → May [] past e
  may_come e h w =
      subst (IsJudged [] past e) (sym (cause_same (known_state s) (known_after [] past) k.alike k.flies e (same_made e h)) ∙ w) (judged [] past e)

  -- and one for which a cause is found may not, for that cause
  pub may_not_come : (e : Event) (c : Cause) → cause (known_state s) e ≡ Some c → IsCause [] past e c
  may_not_come e c w =
      subst (IsJudged [] past e) (cause_more (known_state s) (known_after [] past) k.alike k.flies k.links_only k.refs_only e c w) (judged [] past e)

  pub contradicts : (e : Event) (c : Cause) → cause (known_state s) e ≡ Some c → contradiction (known_state s) e c ≡ contradiction (known_after [] past) e c
  contradicts e c w = contradiction_same (known_state s) (known_after [] past) k.alike k.flies e c w

-- from the first event on each id is known
pub all_late : (past : Past) (s : JudgeState) (k : IsAfterRest None past s) (e : Event) → MakesLate None past s k e
all_late past s k (Born p parent None) = tt
all_late past s k (Born p parent (Some i)) = refl
all_late past s k (Said a b (Message body)) = tt
all_late past s k (Said a b (Signal.Exit r)) = tt
all_late past s k (Said a b (Link i)) = refl
all_late past s k (Said a b (Unlink ids)) = tt
all_late past s k (Said a b (Monitor m)) = refl
all_late past s k (Said a b (Demonitor m)) = tt
all_late past s k (Said a b (LinkExit ids r)) = tt
all_late past s k (Said a b (Signal.Down m r)) = tt
all_late past s k (Said a b (AliveAsk m)) = refl
all_late past s k (Said a b (AliveSay m x)) = tt
all_late past s k (Came a b x) = tt
all_late past s k (Took p j i) = tt
all_late past s k (Flag p on) = tt
all_late past s k (Left p r) = tt
all_late past s k (Refused a b) = tt
