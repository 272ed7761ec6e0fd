-- The sender's messages, from lanes that agree.
use Rattle.std.proofs.Common.{◌≡◌, ℕ, Bool, true, false, cond, ◌==◌, ◌&&◌, List, [], ◌∷◌, ◌++◌, Option, Some, None, map, filter, refl, sym, ap, ◌∙◌, append_assoc, append-nil, true≢false}
use Rattle.std.proofs.lemmas.Bool.{and_parts, eq-eqb, both_ways, false≢true}
use Rattle.std.specs.Map.{lookup}
use Rattle.pt_signal.specs.declared.ids.Ref.{Ref}
use Rattle.pt_signal.specs.declared.pid.Pid.{Pid}
use Rattle.pt_signal.specs.declared.item.Body.{Body}
use Rattle.pt_signal.specs.declared.ids.Ids.{Ids}
use Rattle.pt_signal.specs.declared.item.Item.{Item}
use Rattle.pt_signal.specs.declared.letter.Letter.{Letter}
use Rattle.pt_signal.specs.declared.reason.Reason.{Reason}
use Rattle.pt_signal.specs.declared.reason.Reason.TheVariants.{Normal, Kill}
use Rattle.pt_signal.specs.declared.signal.Signal.{Signal}
use Rattle.pt_signal.specs.declared.signal.Signal.TheVariants.{Message, Link, LinkExit, Monitor, Demonitor, AliveAsk}
use Rattle.pt_events.specs.declared.event.Event.{Event}
use Rattle.pt_events.specs.declared.event.Event.TheVariants.{Said, Came, Left}
use Rattle.pt_events.specs.declared.event.Stamped.{Stamped}
use Rattle.pt_signal.specs.Values.{same_pid, same_ref}
use Rattle.pt_signal.specs.Process.{ProcessState, Sent, sent, verdict, obey, holds_any, held, link_exit, down, handle, estate, bounce}
use Rattle.pt_events.specs.History.{Past, Start, Phase, unborn, living, ended, life, is_unborn, is_ended, arrived_since, arrives, sent_by, got_sends, left_sends, end_sends}
use Rattle.pt_events.specs.Journal.{Journals, LanesAgree, Agrees, content, letter, events, letters, got, gots}
use Rattle.pt_laws.specs.Sender.{body_of, message_of, messages, said_by, said_messages, user_of, users, came_by_when, came_when, IsSenderFront}
use Rattle.pt_signal.proofs.Same.{same_pid_is}
use Rattle.pt_events.proofs.Handling.{living_answer, handle_answer}
use Rattle.pt_events.proofs.Phases.{was_unborn, was_not_ended}

module _ (a p : Pid) where
  pub messages-append : (xs ys : List Letter) → messages a p (xs ++ ys) ≡ messages a p xs ++ messages a p ys
  messages-append [] ys = refl
  messages-append (x ∷ xs) ys = ap (λ z. message_of a p (content x) ++ z) (messages-append xs ys) ∙ sym (append_assoc (message_of a p (content x)) (messages a p xs) (messages a p ys))

  users-append : (xs ys : List Item) → users a p (xs ++ ys) ≡ users a p xs ++ users a p ys
  users-append [] ys = refl
  users-append (x ∷ xs) ys = ap (λ z. user_of a p x ++ z) (users-append xs ys) ∙ sym (append_assoc (user_of a p x) (users a p xs) (users a p ys))

  -- lanes that agree ---------------------------------------------------------------

  agreed : (ps gs over : List Letter) → Agrees ps gs over → messages a p ps ≡ messages a p gs ++ messages a p over
  agreed ps [] over h = ap (messages a p) h
  agreed [] (g ∷ gs) over h = absurd h
  agreed (l ∷ ls) (g ∷ gs) over h =
      ap (λ z. message_of a p (content l) ++ z) (agreed ls gs over h.1)
      ∙ sym (append_assoc (message_of a p (content l)) (messages a p gs) (messages a p over))
      ∙ ap (λ z. (message_of a p z ++ messages a p gs) ++ messages a p over) (sym h.0.0)

  -- a message to p is to p's desk
  posted : (ls : List Letter) → messages a p (filter (λ l. l.to.shard == p.shard) ls) ≡ messages a p ls
  posted [] = refl
  posted (l ∷ ls) = go (l.to.shard == p.shard) refl (same_pid a l.from && same_pid p l.to) refl (posted ls)
    where
      go : (b : Bool) → (l.to.shard == p.shard) ≡ b → (c : Bool) → (same_pid a l.from && same_pid p l.to) ≡ c
          → messages a p (filter (λ l. l.to.shard == p.shard) ls) ≡ messages a p ls
          → messages a p (filter (λ l. l.to.shard == p.shard) (l ∷ ls)) ≡ messages a p (l ∷ ls)
      go true e c f ih = rw e (ap (λ z. message_of a p (content l) ++ z) ih)
      go false e false f ih = rw (e, f) ih
      go false e true f ih =
          let k : p ≡ l.to = same_pid_is _ _ (and_parts _ _ f).1 in
          let k2 : (l.to.shard == p.shard) ≡ true = eq-eqb _ _ (ap (λ q. q.shard) (sym k)) in
          absurd (both_ways _ e k2)

  -- what was got from a's desk --------------------------------------------------------

  all_came : Start → Past → List Body
  all_came start past = came_when a p start (λ f. true) past

  got_messages : (f : Phase) (s : Stamped) → messages a p (got a.shard s) ≡ came_by_when a p (λ f. true) f s.event
  got_messages f s = go s.event
    where
      go : (e : Event) → messages a p (got a.shard (record s { event = e })) ≡ came_by_when a p (λ f. true) f e
      go (Came c d x) = at (c.shard == a.shard) refl (same_pid a c && same_pid p d) refl
        where
          at : (b : Bool) → (c.shard == a.shard) ≡ b → (t : Bool) → (same_pid a c && same_pid p d) ≡ t
              → messages a p (cond (c.shard == a.shard) (letter s.stamp (sent c d x) ∷ []) []) ≡ came_by_when a p (λ f. true) f (Came c d x)
          at true e t g = rw e (append-nil _)
          at false e false g = rw (e, g)
          at false e true g =
              let k : a ≡ c = same_pid_is _ _ (and_parts _ _ g).0 in
              let k2 : (c.shard == a.shard) ≡ true = eq-eqb _ _ (ap (λ q. q.shard) (sym k)) in
              absurd (both_ways _ e k2)
      go e = refl

  got_all : (start : Start) (journal : List Stamped) → messages a p (gots journal a.shard) ≡ came_when a p start (λ f. true) (events journal)
  got_all start [] = refl
  got_all start (s ∷ journal) =
      messages-append (gots journal a.shard) (got a.shard s)
      ∙ ap (λ z. z ++ messages a p (got a.shard s)) (got_all start journal)
      ∙ ap (λ z. came_when a p start (λ f. true) (events journal) ++ z) (got_messages (life start (events journal) p) s)

-- before birth, while alive, after the end -----------------------------------------------

-- an exit signal queues no message
no_user : (a p : Pid) (s : ProcessState) (by_link traps own : Bool) (from : Pid) (r : Reason) → users a p (obey (verdict by_link traps own from r) s).items ≡ []
no_user a p s false traps own from Kill = refl
no_user a p s by_link true own from r = refl
no_user a p s by_link false false from Normal = refl
no_user a p s by_link false own from r = refl

no_user_by_link : (a p : Pid) (held : Bool) (me : Pid) (s : ProcessState) (from : Pid) (r : Reason) → users a p (link_exit held me s from r).items ≡ []
no_user_by_link a p false me s from r = refl
no_user_by_link a p true me s from r = no_user a p _ true s.traps (same_pid from me) from r

no_user_down : (a p : Pid) (t : Option Pid) (s : ProcessState) (from : Pid) (m : Ref) (r : Reason) → users a p (down t s from m r).items ≡ []
no_user_down a p None s from m r = refl
no_user_down a p (Some t) s from m r = refl

both : {X : Type 0} (b : Bool) → ◌≡◌ {A = List X} [] (cond b [] [])
both true = refl
both false = refl

none : {X : Type 0} (b : Bool) → ◌≡◌ {A = List X} (cond b [] []) []
none true = refl
none false = refl

-- what a live process gets is from a, where the receipt is of the pair
arrival : (a p : Pid) (body : List Body) (here from : Bool) (is : List Item) → users a p is ≡ cond from body [] → users a p (cond here is []) ≡ cond (from && here) body []
arrival a p body true true is h = h
arrival a p body true false is h = h
arrival a p body false true is h = refl
arrival a p body false false is h = refl

both2 : (a p : Pid) (b : Bool) → users a p (cond b [] []) ≡ []
both2 a p true = refl
both2 a p false = refl

-- a live process gets a message from a exactly where one came
user_items : (a p me : Pid) (s : ProcessState) (c : Pid) (x : Signal) → users a p (handle me s c x).items ≡ cond (same_pid a c) (body_of x) []
user_items a p me s c (Message b) = append-nil _
user_items a p me s c (Signal.Exit r) = no_user a p s false s.traps (same_pid c me) c r ∙ both _
user_items a p me s c (LinkExit ids r) = no_user_by_link a p (holds_any (held s.links c) ids) me s c r ∙ both _
user_items a p me s c (Signal.Down m r) = no_user_down a p (lookup (same_ref m) s.watching) s c m r ∙ both _
user_items a p me s c _ = both _

-- a total in three parts: before the birth, in the life, and after the end
-- V is empty before birth, W until the end
pub record Parts (f : Phase) (total U V W : List Body) : Type 0 where
  pub joined : total ≡ (U ++ V) ++ W
  pub none_before : is_unborn f ≡ true → V ≡ []
  pub none_yet : is_ended f ≡ false → W ≡ []

-- one more receipt
pub record Part (f : Phase) (t u v w : List Body) : Type 0 where
  pub before : is_unborn f ≡ true → (u ≡ t) × (v ≡ []) × (w ≡ [])
  pub during : is_unborn f ≡ false → is_ended f ≡ false → (u ≡ []) × (v ≡ t) × (w ≡ [])
  pub behind : is_ended f ≡ true → (u ≡ []) × (v ≡ []) × (w ≡ t)

pub more : (f : Phase) (total U V W t u v w : List Body) → Parts f total U V W → Part f t u v w
    → total ++ t ≡ ((U ++ u) ++ (V ++ v)) ++ (W ++ w)
more unborn total U V W t u v w h k =
    let e1 = h.none_before refl in let e2 = h.none_yet refl in let e3 = k.before refl in
    rw (e3.0, e3.1, e3.2, e1, e2, h.joined) (simp (append-nil, e1, e2))
more (living s) total U V W t u v w h k =
    let e2 = h.none_yet refl in let e3 = k.during refl refl in
    rw (e3.0, e3.1, e3.2, h.joined) (simp (append-nil, e2, append_assoc))
more (ended r s) total U V W t u v w h k =
    let e3 = k.behind refl in
    rw (e3.0, e3.1, e3.2, h.joined) (simp (append-nil, append_assoc))

-- what the event adds to the three parts, by the phase
module _ (a p : Pid) where
  part_of : (start : Start) (past : Past) (e : Event) (f : Phase) → life start past p ≡ f
      → Part f (came_by_when a p (λ f. true) f e) (came_by_when a p is_unborn f e) (users a p (arrives start past p e)) (came_by_when a p is_ended f e)
  part_of start past (Came c d x) unborn l = record {
    before = λ h. (refl, simp l (both2 a p (same_pid p d)), none (same_pid a c && same_pid p d));
    during = λ h. absurd (true≢false h);
    behind = λ h. absurd (false≢true h);
  }
  part_of start past (Came c d x) (living s) l = record {
    before = λ h. absurd (false≢true h);
    during = λ h h2. (none (same_pid a c && same_pid p d), simp l (arrival a p (body_of x) (same_pid p d) (same_pid a c) _ (user_items a p p s c x)), none (same_pid a c && same_pid p d));
    behind = λ h. absurd (false≢true h);
  }
  part_of start past (Came c d x) (ended r s) l = record {
    before = λ h. absurd (false≢true h);
    during = λ h h2. absurd (true≢false h2);
    behind = λ h. (none (same_pid a c && same_pid p d), simp l (both2 a p (same_pid p d)), refl);
  }
  part_of start past e f l = record { before = λ h. (refl, refl, refl); during = λ h k. (refl, refl, refl); behind = λ h. (refl, refl, refl) }

  parts : (start : Start) (past : Past)
      → Parts (life start past p) (came_when a p start (λ f. true) past) (came_when a p start is_unborn past) (users a p (arrived_since start past p)) (came_when a p start is_ended past)
  parts start [] = record { joined = refl; none_before = λ h. refl; none_yet = λ h. refl }
  parts start (e ∷ past) =
      let f = life start past p in
      let ih = parts start past in
      let k = part_of start past e f refl in
      let new = users-append a p (arrived_since start past p) (arrives start past p e) in
      record {
        joined = more f _ _ _ _ _ _ _ _ ih k ∙ ap (λ z. ((came_when a p start is_unborn past ++ came_by_when a p is_unborn f e) ++ z) ++ (came_when a p start is_ended past ++ came_by_when a p is_ended f e)) (sym new);
        none_before = λ h. let b = was_unborn p e f h in new ∙ rw (ih.none_before b, (k.before b).1) refl;
        none_yet = λ h. yet f (was_not_ended p e f h) ih k;
      }
    where
      yet : {total U V W t u v w : List Body} (f : Phase) → is_ended f ≡ false → Parts f total U V W → Part f t u v w → W ++ w ≡ []
      yet unborn b ih k = rw (ih.none_yet b, (k.before refl).2) refl
      yet (living s) b ih k = rw (ih.none_yet b, (k.during refl b).2) refl
      yet (ended r s) b ih k = absurd (true≢false b)

  -- the sender's front, from a lane that agrees ---------------------------------------------

  bodies : List Sent → List Body
  bodies [] = []
  bodies (l ∷ ls) = message_of a p l ++ bodies ls

  bodies-append : (xs ys : List Sent) → bodies (xs ++ ys) ≡ bodies xs ++ bodies ys
  unfolding bodies
  bodies-append [] ys = refl
  bodies-append (x ∷ xs) ys = ap (λ z. message_of a p x ++ z) (bodies-append xs ys) ∙ sym (append_assoc (message_of a p x) (bodies xs) (bodies ys))

  bodies-map : {X : Type 0} (f : X → Sent) → ((x : X) → message_of a p (f x) ≡ []) → (xs : List X) → bodies (map f xs) ≡ []
  unfolding bodies
  bodies-map f h [] = refl
  bodies-map f h (x ∷ xs) = rw (h x, bodies-map f h xs)

  bodies_of_estate : (me : Pid) (s : ProcessState) (r : Reason) → bodies (estate me s r) ≡ []
  bodies_of_estate me s r =
      bodies-append _ (map (λ m. sent me m.1 (Demonitor m.0)) s.watching)
      ∙ rw (
        bodies-append (map (λ e. sent me e.0 (LinkExit e.1 r)) s.links) (map (λ k. sent me k.1 (Signal.Down k.0 r)) s.kept),
        bodies-map (λ (e : Pid × Ids). sent me e.0 (LinkExit e.1 r)) (λ e. none _) s.links,
        bodies-map (λ (k : Ref × Pid). sent me k.1 (Signal.Down k.0 r)) (λ k. none _) s.kept,
        bodies-map (λ (m : Ref × Pid). sent me m.1 (Demonitor m.0)) (λ m. none _) s.watching,
      ) refl

  bodies_of_bounce : (me c : Pid) (x : Signal) → bodies (bounce me c x) ≡ []
  unfolding bodies
  bodies_of_bounce me c (Link i) = rw none refl
  bodies_of_bounce me c (Monitor m) = rw none refl
  bodies_of_bounce me c (AliveAsk m) = rw none refl
  bodies_of_bounce me c _ = refl

  bodies_of_end : (me : Pid) (o : Option Reason) (s : ProcessState) → bodies (end_sends me o s) ≡ []
  unfolding bodies
  bodies_of_end me None s = refl
  bodies_of_end me (Some r) s = bodies_of_estate me s r

  bodies_of_answer : (me c : Pid) (x : Signal) → bodies (living_answer me c x) ≡ []
  unfolding bodies
  bodies_of_answer me c (AliveAsk m) = rw none refl
  bodies_of_answer me c _ = refl

  bodies_of_got : (f : Phase) (me c : Pid) (x : Signal) → bodies (got_sends f me c x) ≡ []
  bodies_of_got unborn me c x = bodies_of_bounce me c x
  bodies_of_got (living s) me c x =
      bodies-append (handle me s c x).answer (end_sends me (handle me s c x).ending (handle me s c x).state)
      ∙ ap (λ z. z ++ bodies (end_sends me (handle me s c x).ending (handle me s c x).state)) (ap bodies (handle_answer me s c x) ∙ bodies_of_answer me c x)
      ∙ bodies_of_end me (handle me s c x).ending (handle me s c x).state
  bodies_of_got (ended r s) me c x = bodies_of_bounce me c x

  bodies_of_left : (f : Phase) (me : Pid) (r : Reason) → bodies (left_sends f me r) ≡ []
  unfolding bodies
  bodies_of_left unborn me r = refl
  bodies_of_left (living s) me r = bodies_of_estate me s r
  bodies_of_left (ended w s) me r = refl

  bodies_of_event : (start : Start) (past : Past) (e : Event) → bodies (sent_by start past e) ≡ said_by a p e
  unfolding bodies
  bodies_of_event start past (Said c d x) = append-nil _
  bodies_of_event start past (Came c d x) = bodies_of_got (life start past d) d c x
  bodies_of_event start past (Left q r) = bodies_of_left (life start past q) q r
  bodies_of_event start past _ = refl

  messages_of_letters : (n : ℕ) (ls : List Sent) → messages a p (map (letter n) ls) ≡ bodies ls
  unfolding bodies
  messages_of_letters n [] = refl
  messages_of_letters n (l ∷ ls) = ap (λ z. message_of a p l ++ z) (messages_of_letters n ls)

  said_all : (start : Start) (journal : List Stamped) → messages a p (letters start journal) ≡ said_messages a p (events journal)
  said_all start [] = refl
  said_all start (s ∷ journal) =
      messages-append a p (letters start journal) (map (letter s.stamp) (sent_by start (events journal) s.event))
      ∙ rw (said_all start journal, messages_of_letters s.stamp (sent_by start (events journal) s.event), bodies_of_event start (events journal) s.event) refl

  -- the sender's front, from a lane that agrees ---------------------------------------------

  pub sender_front : (start : Start) (journal : Journals) (over : ℕ → ℕ → List Letter) → LanesAgree start journal over
      → IsSenderFront a p start journal (over a.shard p.shard)
  sender_front start journal over agree =
      let home = journal p.shard in
      sym (said_all start (journal a.shard))
      ∙ sym (posted a p (letters start (journal a.shard)))
      ∙ agreed a p _ _ _ (agree a.shard p.shard)
      ∙ ap (λ z. z ++ messages a p (over a.shard p.shard)) (got_all a p start home ∙ (parts start (events home)).joined)
