-- What came to a process is, sender by sender, what came before its birth, what arrived in its mailbox, and what came after
-- its end.
use Rattle.std.proofs.Common.{◌≡◌, Bool, true, false, cond, ◌&&◌, List, [], ◌∷◌, ◌++◌, map, refl, sym, ap, ◌∙◌, append_assoc, append-nil, true≢false}
use Rattle.std.proofs.lemmas.Bool.{false≢true}
use Rattle.std.proofs.lemmas.List.{map-append}
use Rattle.std.proofs.lemmas.List.Concat.{flat_map-append}
use Rattle.pt_signal.specs.declared.pid.Pid.{Pid}
use Rattle.pt_signal.specs.declared.item.Body.{Body}
use Rattle.pt_signal.specs.declared.item.Item.{Item}
use Rattle.pt_signal.specs.declared.item.Item.TheVariants.{User}
use Rattle.pt_signal.specs.declared.item.Pick.{Pick}
use Rattle.pt_signal.specs.declared.reason.Reason.{Reason}
use Rattle.pt_signal.specs.declared.signal.Signal.{Signal}
use Rattle.pt_events.specs.declared.event.Event.{Event}
use Rattle.pt_events.specs.declared.event.Event.TheVariants.{Came, Took}
use Rattle.pt_signal.specs.Values.{same_pid, fits}
use Rattle.pt_signal.specs.Process.{ProcessState}
use Rattle.pt_events.specs.History.{Past, Start, Phase, unborn, living, ended, at_start, life, is_unborn, is_ended, state_of, arrives, came, came_by, flight, IsLegal}
use Rattle.pt_laws.specs.Sender.{body_of, said_messages, user_of, users}
use Rattle.pt_laws.proofs.living.Resumed.{begun_over}
use Rattle.pt_laws.proofs.order.Flight.{came_or_flies}
use Rattle.pt_laws.proofs.order.Sender.{Parts, Part, more}
use Rattle.pt_laws.proofs.order.Taken.{Arrival, arrivals, take_first, takes, untaken}
use Rattle.pt_events.proofs.Phases.{was_unborn, was_not_ended}
use Rattle.pt_history.specs.Custody.{mailbox, messages_in}
use Rattle.pt_history.proofs.Messages.{said_are_sent, users_queued}

-- the messages that come to p while its phase passes, from whomever
abbrev pub strayed : (Phase → Bool) → Pid → Phase → Event → List Item
strayed test p f (Came c d x) = cond (same_pid p d) (cond (test f) (map (User c) (body_of x)) []) []
strayed test p f _ = []

abbrev pub strays : Start → (Phase → Bool) → Past → Pid → List Item
strays start test [] p = []
strays start test (e ∷ past) p = strays start test past p ++ strayed test p (life start past p) e

abbrev pub arrived_items : List Arrival → List Item
arrived_items rs = map (λ r. r.0) rs

-- arrivals -----------------------------------------------------------------------------------------

same_items : (k : Pick) (rs : List Arrival) → arrived_items (take_first k rs) ≡ arrived_items rs
same_items k [] = refl
same_items k ((i, true) ∷ rs) = ap (λ z. i ∷ z) (same_items k rs)
same_items k ((i, false) ∷ rs) = go (fits k i) refl (same_items k rs)
  where
    go : (b : Bool) → fits k i ≡ b → arrived_items (take_first k rs) ≡ arrived_items rs → arrived_items (take_first k ((i, false) ∷ rs)) ≡ arrived_items ((i, false) ∷ rs)
    go true e ih = rw e refl
    go false e ih = rw e (ap (λ z. i ∷ z) ih)

either_same : (k : Pick) (rs : List Arrival) (b : Bool) → arrived_items (cond b (take_first k rs) rs) ≡ arrived_items rs
either_same k rs true = same_items k rs
either_same k rs false = refl

takes_same : (p : Pid) (e : Event) (rs : List Arrival) → arrived_items (takes p e rs) ≡ arrived_items rs
takes_same p (Took q k i) rs = either_same k rs (same_pid p q)
takes_same p e rs = refl

all_new : (is : List Item) → arrived_items (map untaken is) ≡ is
all_new [] = refl
all_new (i ∷ is) = ap (λ z. i ∷ z) (all_new is)

arrive_more : (start : Start) (past : Past) (p : Pid) (e : Event) → arrived_items (arrivals start (e ∷ past) p) ≡ arrived_items (arrivals start past p) ++ arrives start past p e
arrive_more start past p e = rw (map-append, takes_same p e (arrivals start past p), all_new (arrives start past p e)) refl

-- one event ------------------------------------------------------------------------------------------

none : {X : Type 0} (b : Bool) → ◌≡◌ {A = List X} (cond b [] []) []
none true = refl
none false = refl

module _ (a p : Pid) where
  users-append : (xs ys : List Item) → users a p (xs ++ ys) ≡ users a p xs ++ users a p ys
  users-append [] ys = refl
  users-append (x ∷ xs) ys = ap (λ z. user_of a p x ++ z) (users-append xs ys) ∙ sym (append_assoc (user_of a p x) (users a p xs) (users a p ys))

  one_user : (b : Bool) (x : Body) (xs : List Body) → cond b (x ∷ []) [] ++ cond b xs [] ≡ cond b (x ∷ xs) []
  one_user true x xs = refl
  one_user false x xs = refl

  users_of : (c : Pid) (bodies : List Body) → users a p (map (User c) bodies) ≡ cond (same_pid a c) bodies []
  users_of c [] = sym (none (same_pid a c))
  users_of c (x ∷ xs) = ap (λ z. user_of a p (User c x) ++ z) (users_of c xs) ∙ one_user (same_pid a c) x xs

  -- what comes is from a, where the receipt is of the pair
  of_pair : (bodies : List Body) (here from : Bool) (is : List Item) → users a p is ≡ cond from bodies [] → users a p (cond here is []) ≡ cond (from && here) bodies []
  of_pair bodies true true is h = h
  of_pair bodies true false is h = h
  of_pair bodies false true is h = refl
  of_pair bodies false false is h = refl

  no_users : (b : Bool) → users a p (cond b [] []) ≡ []
  no_users true = refl
  no_users false = refl

  one_came : (c d : Pid) (x : Signal) (b : Bool) → messages_in (cond b (x ∷ []) []) ≡ cond b (body_of x) []
  one_came c d x true = append-nil (body_of x)
  one_came c d x false = refl

  part_of : (start : Start) (past : Past) (e : Event) (f : Phase) → life start past p ≡ f
      → Part f (messages_in (came_by a p e)) (users a p (strayed is_unborn p f e)) (users a p (arrives start past p e)) (users a p (strayed is_ended p f e))
  part_of start past (Came c d x) unborn l = record {
    before = λ h. (of_pair (body_of x) (same_pid p d) (same_pid a c) _ (users_of c (body_of x)) ∙ sym (one_came c d x _), simp l (no_users (same_pid p d)), no_users (same_pid p d));
    during = λ h. absurd (true≢false h);
    behind = λ h. absurd (false≢true h);
  }
  part_of start past (Came c d x) (living s) l = record {
    before = λ h. absurd (false≢true h);
    during = λ h h2. (no_users (same_pid p d), simp l (of_pair (body_of x) (same_pid p d) (same_pid a c) _ (users_queued a p p s c x) ∙ sym (one_came c d x _)), no_users (same_pid p d));
    behind = λ h. absurd (false≢true h);
  }
  part_of start past (Came c d x) (ended r s) l = record {
    before = λ h. absurd (false≢true h);
    during = λ h h2. absurd (true≢false h2);
    behind = λ h. (no_users (same_pid p d), simp l (no_users (same_pid p d)), of_pair (body_of x) (same_pid p d) (same_pid a c) _ (users_of c (body_of x)) ∙ sym (one_came c d x _));
  }
  part_of start past e f l = record { before = λ h. (refl, refl, refl); during = λ h k. (refl, refl, refl); behind = λ h. (refl, refl, refl) }

  -- all events -----------------------------------------------------------------------------------------

  module _ (start : Start) where
    -- with what waited as the history began
    abbrev total : Past → List Body
    total past = users a p (mailbox (at_start start p)) ++ messages_in (came past a p)

    begun : (f : Phase) → is_ended f ≡ false → Parts f (users a p (mailbox f) ++ []) [] (users a p (arrived_items (map untaken (state_of f).waiting))) []
    begun unborn h = record { joined = refl; none_before = λ k. refl; none_yet = λ k. refl }
    begun (living s) h = record {
      joined = append-nil (users a p s.waiting) ∙ ap (users a p) (sym (all_new s.waiting)) ∙ sym (append-nil _);
      none_before = λ k. absurd (false≢true k);
      none_yet = λ k. refl;
    }
    begun (ended r s) h = absurd (true≢false h)

    parts : is_ended (at_start start p) ≡ false → (past : Past)
        → Parts (life start past p) (total past) (users a p (strays start is_unborn past p)) (users a p (arrived_items (arrivals start past p))) (users a p (strays start is_ended past p))
    parts lives [] = begun (at_start start p) lives
    parts lives (e ∷ past) =
        let f = life start past p in
        let ih = parts lives past in
        let k = part_of start past e f refl in
        let U = users-append (strays start is_unborn past p) (strayed is_unborn p f e) in
        let V = ap (users a p) (arrive_more start past p e) ∙ users-append (arrived_items (arrivals start past p)) (arrives start past p e) in
        let W = users-append (strays start is_ended past p) (strayed is_ended p f e) in
        record {
          joined = longer e past ∙ more f _ _ _ _ _ _ _ _ ih k ∙ three _ _ _ _ _ _ (sym U) (sym V) (sym W);
          none_before = λ h. let b = was_unborn p e f h in V ∙ rw (ih.none_before b, (k.before b).1) refl;
          none_yet = λ h. W ∙ yet f (was_not_ended p e f h) ih k;
        }
      where
        longer : (e : Event) (past : Past) → total (e ∷ past) ≡ total past ++ messages_in (came_by a p e)
        longer e past =
            ap (λ z. users a p (mailbox (at_start start p)) ++ z) (flat_map-append body_of (came past a p) (came_by a p e))
            ∙ sym (append_assoc (users a p (mailbox (at_start start p))) (messages_in (came past a p)) (messages_in (came_by a p e)))

        three : (U V W U' V' W' : List Body) → U ≡ U' → V ≡ V' → W ≡ W' → (U ++ V) ++ W ≡ (U' ++ V') ++ W'
        three U V W U' V' W' u v w = λ i. (u i ++ v i) ++ w i

        yet : {total U V W t u v w : List Body} (f : Phase) → is_ended f ≡ false → Parts f total U V W → Part f t u v w → W ++ w ≡ []
        yet unborn b ih k = rw (ih.none_yet b, (k.before refl).2) refl
        yet (living s) b ih k = rw (ih.none_yet b, (k.during refl b).2) refl
        yet (ended r s) b ih k = absurd (true≢false b)

    -- what was said is what came and what flies -------------------------------------------------------

    said_so : (past : Past) → IsLegal start past → said_messages a p past ≡ messages_in (came past a p) ++ messages_in (flight start past a p)
    said_so past legal =
        sym (said_are_sent a p start past) ∙ ap messages_in (came_or_flies start past a p legal)
        ∙ flat_map-append body_of (came past a p) (flight start past a p)

    pub sent_parts : is_ended (at_start start p) ≡ false → (past : Past) → IsLegal start past
        → users a p (mailbox (at_start start p)) ++ said_messages a p past
        ≡ users a p (strays start is_unborn past p ++ (arrived_items (arrivals start past p) ++ strays start is_ended past p)) ++ messages_in (flight start past a p)
    sent_parts lives past legal =
        ap (λ z. users a p (mailbox (at_start start p)) ++ z) (said_so past legal)
        ∙ sym (append_assoc (users a p (mailbox (at_start start p))) (messages_in (came past a p)) (messages_in (flight start past a p)))
        ∙ ap (λ z. z ++ messages_in (flight start past a p)) ((parts lives past).joined ∙ sym all_three)
      where
        all_three : users a p (strays start is_unborn past p ++ (arrived_items (arrivals start past p) ++ strays start is_ended past p))
            ≡ (users a p (strays start is_unborn past p) ++ users a p (arrived_items (arrivals start past p))) ++ users a p (strays start is_ended past p)
        all_three =
            users-append (strays start is_unborn past p) (arrived_items (arrivals start past p) ++ strays start is_ended past p)
            ∙ ap (λ z. users a p (strays start is_unborn past p) ++ z) (users-append (arrived_items (arrivals start past p)) (strays start is_ended past p))
            ∙ sym (append_assoc (users a p (strays start is_unborn past p)) (users a p (arrived_items (arrivals start past p))) (users a p (strays start is_ended past p)))

    -- to one that had ended before ---------------------------------------------------------------------

    module _ (r : Reason) (s : ProcessState) (over : at_start start p ≡ ended r s) where
      came_late : (past : Past) → messages_in (came past a p) ≡ users a p (strays start is_ended past p)
      came_late [] = refl
      came_late (e ∷ past) =
          flat_map-append body_of (came past a p) (came_by a p e)
          ∙ ap (λ z. z ++ messages_in (came_by a p e)) (came_late past)
          ∙ ap (λ z. users a p (strays start is_ended past p) ++ z) (sym ((part_of start past e (ended r s) (begun_over start p r s over past)).behind refl).2)
          ∙ sym (users-append (strays start is_ended past p) (strayed is_ended p (ended r s) e))
          ∙ ap (λ (f : Phase). users a p (strays start is_ended past p ++ strayed is_ended p f e)) (sym (begun_over start p r s over past))

      pub sent_late : (past : Past) → IsLegal start past → said_messages a p past ≡ users a p (strays start is_ended past p) ++ messages_in (flight start past a p)
      sent_late past legal = said_so past legal ∙ ap (λ z. z ++ messages_in (flight start past a p)) (came_late past)
