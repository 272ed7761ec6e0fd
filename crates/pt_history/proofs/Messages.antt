-- The messages among signals, letters and items: what is sent beside what a process says is no message, and a live
-- process queues a message exactly where one came.
use Rattle.std.proofs.Common.{◌≡◌, Bool, true, false, cond, ◌&&◌, List, [], ◌∷◌, ◌++◌, Option, Some, None, map, refl, ap, ◌∙◌, append-nil}
use Rattle.std.specs.List.{flat_map}
use Rattle.std.specs.Map.{lookup}
use Rattle.std.proofs.lemmas.List.Concat.{flat_map-append}
use Rattle.pt_signal.specs.declared.pid.Pid.{Pid}
use Rattle.pt_signal.specs.declared.ids.Ref.{Ref}
use Rattle.pt_signal.specs.declared.ids.Ids.{Ids}
use Rattle.pt_signal.specs.declared.item.Body.{Body}
use Rattle.pt_signal.specs.declared.reason.Reason.{Reason}
use Rattle.pt_signal.specs.declared.reason.Reason.TheVariants.{Normal, Kill}
use Rattle.pt_signal.specs.declared.signal.Signal.{Signal}
use Rattle.pt_signal.specs.declared.signal.Signal.TheVariants.{Message, Link, LinkExit, Monitor, Demonitor, AliveAsk}
use Rattle.pt_events.specs.declared.event.Event.{Event}
use Rattle.pt_events.specs.declared.event.Event.TheVariants.{Said, Came, Left}
use Rattle.pt_signal.specs.Values.{same_pid, same_ref}
use Rattle.pt_signal.specs.Process.{ProcessState, Sent, sent, verdict, obey, held, holds_any, link_exit, down, handle, estate, bounce}
use Rattle.pt_events.specs.History.{Past, Start, Phase, unborn, living, ended, life, is_between, sent_by, got_sends, left_sends, end_sends, all_sent, emitted}
use Rattle.pt_laws.specs.Sender.{body_of, said_by, said_messages, users}
use Rattle.pt_laws.proofs.order.Flight.{between, between-append}
use Rattle.pt_events.proofs.Handling.{living_answer, handle_answer}
use Rattle.pt_history.specs.Custody.{messages_in}

-- what is sent beside what a process says -----------------------------------------------------------

-- the bodies of all messages, whoever they are from and to
all_bodies : List Sent → List Body
all_bodies ls = flat_map (λ l. body_of l.signal) ls

bodies-append : (xs ys : List Sent) → all_bodies xs ≡ [] → all_bodies ys ≡ [] → all_bodies (xs ++ ys) ≡ []
unfolding all_bodies
bodies-append xs ys h k = rw (flat_map-append (λ (l : Sent). body_of l.signal) xs ys, h, k) refl

bodies-map : {X : Type 0} (f : X → Sent) → ((x : X) → body_of (f x).signal ≡ []) → (xs : List X) → all_bodies (map f xs) ≡ []
unfolding all_bodies
bodies-map f h [] = refl
bodies-map f h (x ∷ xs) = rw (h x, bodies-map f h xs) refl

no_body_owed : (me : Pid) (s : ProcessState) (r : Reason) → all_bodies (estate me s r) ≡ []
no_body_owed me s r =
    bodies-append (map (λ e. sent me e.0 (LinkExit e.1 r)) s.links ++ map (λ k. sent me k.1 (Signal.Down k.0 r)) s.kept) (map (λ m. sent me m.1 (Demonitor m.0)) s.watching)
    (bodies-append (map (λ e. sent me e.0 (LinkExit e.1 r)) s.links) (map (λ k. sent me k.1 (Signal.Down k.0 r)) s.kept)
    (bodies-map (λ (e : Pid × Ids). sent me e.0 (LinkExit e.1 r)) (λ e. refl) s.links) (bodies-map (λ (k : Ref × Pid). sent me k.1 (Signal.Down k.0 r)) (λ k. refl) s.kept))
    (bodies-map (λ (m : Ref × Pid). sent me m.1 (Demonitor m.0)) (λ m. refl) s.watching)

no_body_bounced : (me c : Pid) (x : Signal) → all_bodies (bounce me c x) ≡ []
unfolding all_bodies
no_body_bounced me c (Link i) = refl
no_body_bounced me c (Monitor m) = refl
no_body_bounced me c (AliveAsk m) = refl
no_body_bounced me c _ = refl

no_body_at_end : (me : Pid) (o : Option Reason) (s : ProcessState) → all_bodies (end_sends me o s) ≡ []
unfolding all_bodies
no_body_at_end me None s = refl
no_body_at_end me (Some r) s = no_body_owed me s r

no_body_answered : (me c : Pid) (x : Signal) → all_bodies (living_answer me c x) ≡ []
unfolding all_bodies
no_body_answered me c (AliveAsk m) = refl
no_body_answered me c _ = refl

no_body_got : (f : Phase) (me c : Pid) (x : Signal) → all_bodies (got_sends f me c x) ≡ []
no_body_got unborn me c x = no_body_bounced me c x
no_body_got (living s) me c x =
    bodies-append (handle me s c x).answer (end_sends me (handle me s c x).ending (handle me s c x).state)
    (ap all_bodies (handle_answer me s c x) ∙ no_body_answered me c x) (no_body_at_end me (handle me s c x).ending (handle me s c x).state)
no_body_got (ended r s) me c x = no_body_bounced me c x

no_body_left : (f : Phase) (me : Pid) (r : Reason) → all_bodies (left_sends f me r) ≡ []
unfolding all_bodies
no_body_left unborn me r = refl
no_body_left (living s) me r = no_body_owed me s r
no_body_left (ended w s) me r = refl

-- what was sent is what was said --------------------------------------------------------------------

module _ (a p : Pid) where
  -- where there is no message at all there is none of the pair
  none_between : (ls : List Sent) → all_bodies ls ≡ [] → messages_in (between a p ls) ≡ []
  unfolding all_bodies
  none_between [] h = refl
  none_between (l ∷ ls) h =
      let both = empty_parts (body_of l.signal) (all_bodies ls) h in go (is_between a p l) refl both.0 (none_between ls both.1)
    where
      empty_parts : (xs ys : List Body) → xs ++ ys ≡ [] → (xs ≡ []) × (ys ≡ [])
      empty_parts [] ys h = (refl, h)
      empty_parts (x ∷ xs) ys h = absurd cc

      go : (b : Bool) → is_between a p l ≡ b → body_of l.signal ≡ [] → messages_in (between a p ls) ≡ [] → messages_in (between a p (l ∷ ls)) ≡ []
      go true e k ih = rw (e, k) ih
      go false e k ih = rw e ih

  said_of : (start : Start) (past : Past) (e : Event) → messages_in (between a p (sent_by start past e)) ≡ said_by a p e
  said_of start past (Said c d x) = go (same_pid a c && same_pid p d) refl
    where
      go : (b : Bool) → (same_pid a c && same_pid p d) ≡ b → messages_in (between a p (sent c d x ∷ [])) ≡ cond (same_pid a c && same_pid p d) (body_of x) []
      go true e = rw e (append-nil (body_of x))
      go false e = rw e refl
  said_of start past (Came c d x) = none_between (got_sends (life start past d) d c x) (no_body_got (life start past d) d c x)
  said_of start past (Left q r) = none_between (left_sends (life start past q) q r) (no_body_left (life start past q) q r)
  said_of start past _ = refl

  pub said_are_sent : (start : Start) (past : Past) → messages_in (emitted start past a p) ≡ said_messages a p past
  said_are_sent start [] = refl
  said_are_sent start (e ∷ past) =
      ap messages_in (between-append a p (all_sent start past) (sent_by start past e))
      ∙ flat_map-append body_of (between a p (all_sent start past)) (between a p (sent_by start past e))
      ∙ rw (said_are_sent start past, said_of start past e) refl

-- what a live process queues ---------------------------------------------------------------------------

module _ (a p : Pid) where
  no_user : (s : ProcessState) (by_link traps own : Bool) (from : Pid) (r : Reason) → users a p (obey (verdict by_link traps own from r) s).items ≡ []
  no_user s false traps own from Kill = refl
  no_user s by_link true own from r = refl
  no_user s by_link false false from Normal = refl
  no_user s by_link false own from r = refl

  no_user_by_link : (holds : Bool) (me : Pid) (s : ProcessState) (from : Pid) (r : Reason) → users a p (link_exit holds me s from r).items ≡ []
  no_user_by_link false me s from r = refl
  no_user_by_link true me s from r = no_user _ true s.traps (same_pid from me) from r

  no_user_down : (t : Option Pid) (s : ProcessState) (from : Pid) (m : Ref) (r : Reason) → users a p (down t s from m r).items ≡ []
  no_user_down None s from m r = refl
  no_user_down (Some t) s from m r = refl

  either_none : (b : Bool) → ◌≡◌ {A = List Body} [] (cond b [] [])
  either_none true = refl
  either_none false = refl

  pub users_queued : (me : Pid) (s : ProcessState) (c : Pid) (x : Signal) → users a p (handle me s c x).items ≡ cond (same_pid a c) (body_of x) []
  users_queued me s c (Message b) = append-nil _
  users_queued me s c (Signal.Exit r) = no_user s false s.traps (same_pid c me) c r ∙ either_none _
  users_queued me s c (LinkExit ids r) = no_user_by_link (holds_any (held s.links c) ids) me s c r ∙ either_none _
  users_queued me s c (Signal.Down m r) = no_user_down (lookup (same_ref m) s.watching) s c m r ∙ either_none _
  users_queued me s c _ = either_none _
