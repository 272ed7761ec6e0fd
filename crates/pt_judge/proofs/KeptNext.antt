-- The table and the signals on their way, after one event more.
use Rattle.std.proofs.Common.{◌≡◌, Bool, true, false, cond, not, ◌||◌, Option, Some, None, [], ◌∷◌, ◌++◌, refl, ap, ap₂, sym, ◌∙◌, subst₂}
use Rattle.pt_signal.specs.declared.pid.Pid.{Pid}
use Rattle.pt_signal.specs.declared.reason.Reason.{Reason}
use Rattle.pt_signal.specs.declared.signal.Signal.{Signal}
use Rattle.pt_signal.specs.declared.signal.Signal.TheVariants.{AliveAsk}
use Rattle.pt_events.specs.declared.event.Event.{Event}
use Rattle.pt_events.specs.declared.event.Event.TheVariants.{Born, Came, Left}
use Rattle.pt_signal.specs.Values.{same_pid}
use Rattle.pt_signal.specs.Process.{ProcessState, handle, bounce}
use Rattle.pt_events.specs.History.{Past, Start, Phase, unborn, living, ended, is_living, is_unborn, at_start, after, live_or_end, reason_of, state_of, end_sends, got_sends, left_sends, landed, life, flying, sent_by, is_birth, makes_link, makes_ref}
use Rattle.pt_judge.specs.declared.cause.Cause.{Cause}
use Rattle.pt_judge.specs.declared.cause.Cause.TheVariants.{BornTwice}
use Rattle.pt_judge.specs.Judge.{IsAfter}
use Rattle.pt_judge.specs.Judging.{JudgeState, now_is, known_state, cause, ListsBorn, MayBeBorn, answered, lived, judge_sends, IsObserved, IsStep}
use Rattle.pt_signal.proofs.Same.{same_pid_refl}
use Rattle.pt_events.proofs.Handling.{living_answer, handle_answer}
use Rattle.pt_events.proofs.Phases.{after_born}
use Rattle.pt_judge.proofs.Lives.{after_unborn, other_unborn}

-- a pid is unborn until its birth
born_after : (p : Pid) (e : Event) (f : Phase) → not (is_unborn f) || is_birth p e ≡ not (is_unborn (after p e f))
born_after p e (living s) = sym (ap not (after_born p e (living s) refl))
born_after p e (ended r s) = sym (ap not (after_born p e (ended r s) refl))
born_after p (Born q parent link) unborn = go (same_pid p q) refl
  where
    go : (b : Bool) → same_pid p q ≡ b → same_pid p q ≡ not (is_unborn (after p (Born q parent link) unborn))
    go true h = rw h refl
    go false h = h ∙ sym (ap (λ f. not (is_unborn f)) (other_unborn p q parent link h))
born_after p e unborn = sym (ap (λ f. not (is_unborn f)) (after_unborn p e tt))

end_sent : (p : Pid) (o : Option Reason) (s : ProcessState) → end_sends p (reason_of (live_or_end o s)) (state_of (live_or_end o s)) ≡ end_sends p o s
end_sent p None s = refl
end_sent p (Some r) s = refl

answer_sent : (b a : Pid) (x : Signal) → answered b a x ≡ living_answer b a x
answer_sent b a (AliveAsk m) = refl
answer_sent b a _ = refl

came_sent : (a b : Pid) (x : Signal) (f : Phase)
    → cond (is_living f) (answered b a x ++ end_sends b (reason_of (after b (Came a b x) f)) (state_of (after b (Came a b x) f))) (bounce b a x) ≡ got_sends f b a x
came_sent a b x unborn = refl
came_sent a b x (ended r s) = refl
came_sent a b x (living s) = rw (same_pid_refl b) (ap₂ (λ y z. y ++ z) (answer_sent b a x ∙ sym (handle_answer b s a x)) (end_sent b (handle b s a x).ending (handle b s a x).state))

left_sent : (p : Pid) (r : Reason) (f : Phase)
    → cond (is_living f) (end_sends p (reason_of (after p (Left p r) f)) (state_of (after p (Left p r) f))) [] ≡ left_sends f p r
left_sent p r unborn = refl
left_sent p r (ended why s) = refl
left_sent p r (living s) = rw (same_pid_refl p) refl

-- the table lists those that were born, after the event too
pub lists_next : (lives lives' : Start) (e : Event) → ListsBorn lives → IsObserved lives lives' e → ListsBorn lives'
lists_next lives lives' e k o p =
    o.known p ∙ ap (λ b. b || is_birth p e) (k p) ∙ born_after p e (at_start lives p) ∙ ap (λ f. not (is_unborn f)) (sym (o.lives p))

unborn_first : (b : Bool) (o : Option Cause) → cond b o (Some BornTwice) ≡ None → b ≡ true
unborn_first true o h = refl
unborn_first false o h = absurd (cc)

-- an event that no cause refuses gives birth to none that is listed
pub may_be_born : (s : JudgeState) (e : Event) → ListsBorn s.lives → cause (known_state s) e ≡ None → MayBeBorn s.lives e
may_be_born s (Born p parent link) k h = k p ∙ ap not (unborn_first (is_unborn (now_is s p)) _ h)
may_be_born s _ k h = tt

module _ (start : Start) (past : Past) (old new : JudgeState) (k : IsAfter start past old) where
  sent_next : (e : Event) → IsStep old e new → judge_sends new.lives (lived old.lives e) e ≡ sent_by start past e
  sent_next (Came a b x) t =
      subst₂ (λ f g. cond (is_living f) (answered b a x ++ end_sends b (reason_of g) (state_of g)) (bounce b a x) ≡ got_sends (life start past b) b a x)
      (sym (k.alike b)) (sym (t.lives b ∙ ap (after b (Came a b x)) (k.alike b)))
      (came_sent a b x (life start past b))
  sent_next (Left p r) t =
      subst₂ (λ f g. cond (is_living f) (end_sends p (reason_of g) (state_of g)) [] ≡ left_sends (life start past p) p r)
      (sym (k.alike p)) (sym (t.lives p ∙ ap (after p (Left p r)) (k.alike p)))
      (left_sent p r (life start past p))
  sent_next _ t = refl

  pub after_next : (e : Event) → IsStep old e new → IsAfter start (e ∷ past) new
  after_next e t = record {
    links_made = λ i. t.links i ∙ ap (λ b. makes_link i e || b) (k.links_made i);
    refs_made = λ m. t.refs m ∙ ap (λ b. makes_ref m e || b) (k.refs_made m);
    alike = λ p. t.lives p ∙ ap (after p e) (k.alike p);
    flies = t.flights ∙ ap (λ z. landed e z ++ judge_sends new.lives (lived old.lives e) e) k.flies ∙ ap (λ z. landed e (flying start past) ++ z) (sent_next e t);
  }
