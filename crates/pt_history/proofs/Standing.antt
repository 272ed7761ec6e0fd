-- What a desk's own journal says of its processes, and what a history says that goes on from another one: the mailbox and
-- the losses.
use Rattle.std.proofs.Common.{◌≡◌, ◌==◌, Bool, true, false, List, [], ◌∷◌, ◌++◌, refl, sym, ap, ◌∙◌, append_assoc, append-nil}
use Rattle.pt_signal.specs.declared.pid.Pid.{Pid}
use Rattle.pt_events.specs.declared.event.Event.{Event}
use Rattle.pt_events.specs.declared.event.Event.TheVariants.{Came, Left}
use Rattle.pt_events.specs.declared.event.Stamped.{Stamped}
use Rattle.pt_events.specs.History.{Past, Start, Phase, unborn, living, ended, at_start, life, touches}
use Rattle.pt_events.specs.Journal.{events, of_desk}
use Rattle.pt_events.specs.Leaving.{outcome}
use Rattle.pt_events.specs.Forgetting.{reasonless}
use Rattle.pt_events.specs.Locality.{AllHome}
use Rattle.pt_events.proofs.Local.{home_untouched, life_local}
use Rattle.pt_laws.proofs.living.Resumed.{over_reasonless}
use Rattle.pt_shard.specs.Losses.{losses}
use Rattle.pt_history.specs.Custody.{mailbox, all_lost_to}
use Rattle.pt_history.proofs.Losing.{lose_more, lost_of}

-- the mailbox -------------------------------------------------------------------------------------------

pub mailbox_but : (f : Phase) → mailbox (reasonless f) ≡ mailbox f
mailbox_but unborn = refl
mailbox_but (living s) = refl
mailbox_but (ended r s) = refl

pub mailbox_left : (f : Phase) → mailbox (outcome f) ≡ mailbox f
mailbox_left unborn = refl
mailbox_left (living s) = refl
mailbox_left (ended r s) = refl

-- a loss is of what is known without reasons
lost_but : (p : Pid) (f : Phase) (e : Event) → lost_of p (reasonless f) e ≡ lost_of p f e
lost_but p unborn e = refl
lost_but p (living s) e = refl
lost_but p (ended r s) (Came c d x) = refl
lost_but p (ended r s) (Left q w) = refl
lost_but p (ended r s) e = refl

-- over a start that a history left behind ------------------------------------------------------------------

module _ (again : Start) (old : Past) (begun : (p : Pid) → reasonless (at_start again p) ≡ reasonless (life [] old p)) (p : Pid) where
  pub mailbox_over : (new : Past) → mailbox (life [] (new ++ old) p) ≡ mailbox (life again new p)
  mailbox_over new =
      sym (mailbox_but (life [] (new ++ old) p)) ∙ ap mailbox (sym (over_reasonless [] again old begun new p)) ∙ mailbox_but (life again new p)

  -- the losses of both histories are those of the one and then those of the other
  pub losses_over : (new : Past) → all_lost_to p (losses [] (new ++ old)) ≡ all_lost_to p (losses [] old) ++ all_lost_to p (losses again new)
  losses_over [] = sym (append-nil (all_lost_to p (losses [] old)))
  losses_over (e ∷ new) =
      lose_more [] (new ++ old) p e
      ∙ ap (λ z. z ++ lost_of p (life [] (new ++ old) p) e) (losses_over new)
      ∙ append_assoc (all_lost_to p (losses [] old)) (all_lost_to p (losses again new)) (lost_of p (life [] (new ++ old) p) e)
      ∙ ap (λ z. all_lost_to p (losses [] old) ++ (all_lost_to p (losses again new) ++ z))
      (sym (lost_but p (life [] (new ++ old) p) e) ∙ ap (λ (f : Phase). lost_of p f e) (sym (over_reasonless [] again old begun new p)) ∙ lost_but p (life again new p) e)
      ∙ ap (λ z. all_lost_to p (losses [] old) ++ z) (sym (lose_more again new p e))

-- at home --------------------------------------------------------------------------------------------------

untouched_keeps : (p : Pid) (f : Phase) (e : Event) → touches p e ≡ false → lost_of p f e ≡ []
untouched_keeps p f (Came c d x) h = rw h refl
untouched_keeps p f (Left q r) h = rw h refl
untouched_keeps p f e h = refl

module _ (start : Start) (p : Pid) where
  pub losses_local : (merged : List Stamped) → AllHome merged → all_lost_to p (losses start (events (of_desk p.shard merged))) ≡ all_lost_to p (losses start (events merged))
  losses_local [] home = refl
  losses_local (s ∷ merged) home = go (s.desk == p.shard) refl (losses_local merged home.1)
    where
      go : (b : Bool) → (s.desk == p.shard) ≡ b → all_lost_to p (losses start (events (of_desk p.shard merged))) ≡ all_lost_to p (losses start (events merged))
          → all_lost_to p (losses start (events (of_desk p.shard (s ∷ merged)))) ≡ all_lost_to p (losses start (events (s ∷ merged)))
      go true e ih =
          rw e (lose_more start (events (of_desk p.shard merged)) p s.event
          ∙ ap (λ z. z ++ lost_of p (life start (events (of_desk p.shard merged)) p) s.event) ih
          ∙ ap (λ (f : Phase). all_lost_to p (losses start (events merged)) ++ lost_of p f s.event) (life_local start p merged home.1)
          ∙ sym (lose_more start (events merged) p s.event))
      go false e ih =
          rw e (ih ∙ sym (append-nil (all_lost_to p (losses start (events merged))))
          ∙ ap (λ z. all_lost_to p (losses start (events merged)) ++ z) (sym (untouched_keeps p (life start (events merged) p) s.event (home_untouched s.desk p s.event home.0 e)))
          ∙ sym (lose_more start (events merged) p s.event))

-- starts that say the same of p
pub losses_same : (one two : Start) (p : Pid) → ((past : Past) → life one past p ≡ life two past p) → (past : Past) → all_lost_to p (losses one past) ≡ all_lost_to p (losses two past)
losses_same one two p same [] = refl
losses_same one two p same (e ∷ past) =
    lose_more one past p e ∙ ap (λ z. z ++ lost_of p (life one past p) e) (losses_same one two p same past)
    ∙ ap (λ (f : Phase). all_lost_to p (losses two past) ++ lost_of p f e) (same past) ∙ sym (lose_more two past p e)
