-- Each answer to the question whether a process is alive is true.
use Rattle.std.proofs.Common.{◌≡◌, Bool, true, false, cond, ◌&&◌, ◌⊎◌, inl, inr, ⊎_elim, List, [], ◌∷◌, ◌++◌, Option, Some, None, refl, sym, ap, ◌∙◌, subst, append-nil, arith}
use Rattle.std.specs.Prelude.{⊤, Contains}
use Rattle.std.specs.Map.{lookup}
use Rattle.std.proofs.lemmas.Bool.{and_parts}
use Rattle.pt_signal.specs.declared.pid.Pid.{Pid}
use Rattle.pt_signal.specs.declared.ids.Ref.{Ref}
use Rattle.pt_signal.specs.declared.ids.Ids.{Ids}
use Rattle.pt_signal.specs.declared.item.Item.{Item}
use Rattle.pt_signal.specs.declared.reason.Reason.{Reason}
use Rattle.pt_signal.specs.declared.reason.Reason.TheVariants.{Normal, Kill}
use Rattle.pt_signal.specs.declared.signal.Signal.{Signal}
use Rattle.pt_signal.specs.declared.signal.Signal.TheVariants.{Message, Link, LinkExit, Monitor, Demonitor, AliveAsk, AliveSay}
use Rattle.pt_events.specs.declared.event.Event.{Event}
use Rattle.pt_events.specs.declared.event.Event.TheVariants.{Said, Came, Left}
use Rattle.pt_signal.specs.Values.{same_pid, same_ref}
use Rattle.pt_signal.specs.Process.{ProcessState, verdict, obey, holds_any, held, link_exit, down, handle, Sent, sent, estate, bounce}
use Rattle.pt_events.specs.History.{Past, Start, Phase, unborn, living, ended, is_living, life, alive, state, is_between, landed, flying, sent_by, got_sends, left_sends, end_sends, items_of, arrives, arrived_since, emitted, came, MaySay, May, IsLegal}
use Rattle.pt_signal.proofs.Same.{same_pid_is}
use Rattle.pt_events.proofs.Handling.{living_answer, handle_answer}
use Rattle.pt_laws.specs.Asking.{IsAnswer}
use Rattle.pt_laws.proofs.order.Flight.{between, between-append, landed_same, came_or_flies}
use Rattle.pt_laws.proofs.order.Each.{Each, each-append, each-without, each-found, each-at, each-contains, each-map, each-weaker}

-- a list that splits at an element of the one part or of the other
split_cases : {X : Type 0} (xs ys pre post : List X) (z : X) → xs ++ ys ≡ pre ++ z ∷ post
    → ((rest : List X) × (xs ≡ pre ++ z ∷ rest)) ⊎ ((rest : List X) × (pre ≡ xs ++ rest) × (ys ≡ rest ++ z ∷ post))
split_cases [] ys pre post z e = inr (pre, refl, e)
split_cases (x ∷ xs) ys [] post z e = let k : x ≡ z = cc in inl (xs, ap (λ y. y ∷ xs) k)
split_cases (x ∷ xs) ys (w ∷ pre) post z e =
    let k : x ≡ w = cc in
    let l : xs ++ ys ≡ pre ++ z ∷ post = cc in
    ⊎_elim
    (λ (a : (rest : _) × (xs ≡ pre ++ z ∷ rest)). inl (a.0, ap (λ y. y ∷ xs) k ∙ ap (λ ys. w ∷ ys) a.1))
    (λ (b : (rest : _) × (pre ≡ xs ++ rest) × (ys ≡ rest ++ z ∷ post)). inr (b.0, ap (λ y. y ∷ pre) (sym k) ∙ ap (λ ys. x ∷ ys) b.1, b.2))
    (split_cases xs ys pre post z l)

-- what an answer on its way tells --------------------------------------------------------------------

-- q's question m came to t, and x says whether t was alive just before
record CameThen (start : Start) (past : Past) (q t : Pid) (m : Ref) (x : Bool) : Type 0 where
  later : Past
  before : Past
  split : past ≡ later ++ Came q t (AliveAsk m) ∷ before
  truth : x ≡ alive start before t

abbrev Tells : Start → Past → Pid → Pid → Signal → Type 0
Tells start past t q (AliveSay m x) = CameThen start past q t m x
Tells start past t q _ = ⊤

abbrev TellsItem : Start → Past → Pid → Item → Type 0
TellsItem start past q (Item.Alive m t x) = CameThen start past q t m x
TellsItem start past q _ = ⊤

module _ (start : Start) where
  then_later : (past : Past) (e : Event) (q t : Pid) (m : Ref) (x : Bool) → CameThen start past q t m x → CameThen start (e ∷ past) q t m x
  then_later past e q t m x h = record { later = e ∷ h.later; before = h.before; split = ap (λ z. e ∷ z) h.split; truth = h.truth }

  tells_later : (past : Past) (e : Event) (t q : Pid) (x : Signal) → Tells start past t q x → Tells start (e ∷ past) t q x
  tells_later past e t q (AliveSay m x) h = then_later past e q t m x h
  tells_later past e t q _ h = tt

  item_later : (past : Past) (e : Event) (q : Pid) (i : Item) → TellsItem start past q i → TellsItem start (e ∷ past) q i
  item_later past e q (Item.Alive m t x) h = then_later past e q t m x h
  item_later past e q _ h = tt

  abbrev Fine : Past → Sent → Type 0
  Fine past l = Tells start past l.from l.to l.signal

  fine_estate : (past : Past) (me : Pid) (s : ProcessState) (r : Reason) → Each (Fine past) (estate me s r)
  fine_estate past me s r =
      each-append (Fine past) _ _
      (each-append (Fine past) _ _ (each-map (Fine past) (λ (e : Pid × Ids). sent me e.0 (LinkExit e.1 r)) (λ x. tt) s.links)
      (each-map (Fine past) (λ (k : Ref × Pid). sent me k.1 (Signal.Down k.0 r)) (λ x. tt) s.kept))
      (each-map (Fine past) (λ (m : Ref × Pid). sent me m.1 (Demonitor m.0)) (λ x. tt) s.watching)

  fine_end : (past : Past) (me : Pid) (o : Option Reason) (s : ProcessState) → Each (Fine past) (end_sends me o s)
  fine_end past me None s = tt
  fine_end past me (Some r) s = fine_estate past me s r

  fine_bounce : (past : Past) (a b : Pid) (x : Signal) → alive start past b ≡ false → Each (Fine (Came a b x ∷ past)) (bounce b a x)
  fine_bounce past a b (AliveAsk m) e = (record { later = []; before = past; split = refl; truth = sym e }, tt)
  fine_bounce past a b (Link i) e = (tt, tt)
  fine_bounce past a b (Monitor m) e = (tt, tt)
  fine_bounce past a b _ e = tt

  fine_answer : (past : Past) (a b : Pid) (x : Signal) → alive start past b ≡ true → Each (Fine (Came a b x ∷ past)) (living_answer b a x)
  fine_answer past a b (AliveAsk m) e = (record { later = []; before = past; split = refl; truth = sym e }, tt)
  fine_answer past a b _ e = tt

  fine_got : (past : Past) (a b : Pid) (x : Signal) (f : Phase) → life start past b ≡ f → Each (Fine (Came a b x ∷ past)) (got_sends f b a x)
  fine_got past a b x unborn e = fine_bounce past a b x (ap is_living e)
  fine_got past a b x (ended r s) e = fine_bounce past a b x (ap is_living e)
  fine_got past a b x (living s) e =
      each-append (Fine (Came a b x ∷ past)) _ _
      (subst (Each (Fine (Came a b x ∷ past))) (sym (handle_answer b s a x)) (fine_answer past a b x (ap is_living e)))
      (fine_end (Came a b x ∷ past) b (handle b s a x).ending (handle b s a x).state)

  fine_left : (past : Past) (p : Pid) (r : Reason) (f : Phase) → Each (Fine past) (left_sends f p r)
  fine_left past p r unborn = tt
  fine_left past p r (living s) = fine_estate past p s r
  fine_left past p r (ended w s) = tt

  fine_said : (past : Past) (s : ProcessState) (a b : Pid) (x : Signal) → MaySay start past s a b x → Tells start (Said a b x ∷ past) a b x
  fine_said past s a b (AliveSay m x) h = absurd h
  fine_said past s a b _ h = tt

  fine_new : (past : Past) (e : Event) → May start past e → Each (Fine (e ∷ past)) (sent_by start past e)
  fine_new past (Said a b x) h = (fine_said past (state start past a) a b x h.1, tt)
  fine_new past (Came a b x) h = fine_got past a b x (life start past b) refl
  fine_new past (Left p r) h = fine_left (Left p r ∷ past) p r (life start past p)
  fine_new past _ h = tt

  fine_landed : (past : Past) (e : Event) (ls : List Sent) → Each (Fine past) ls → Each (Fine past) (landed e ls)
  fine_landed past (Came a b x) ls h = each-without (Fine past) (is_between a b) ls h
  fine_landed past _ ls h = h

  -- each answer that is on its way is true
  fine : (past : Past) → IsLegal start past → Each (Fine past) (flying start past)
  fine [] h = tt
  fine (e ∷ past) h =
      each-append (Fine (e ∷ past)) _ _
      (each-weaker (Fine past) (Fine (e ∷ past)) (λ l. tells_later past e l.from l.to l.signal) (landed e (flying start past)) (fine_landed past e (flying start past) (fine past h.1)))
      (fine_new past e h.0)

  -- what arrives ---------------------------------------------------------------------------------------

  obeyed : (past : Past) (q : Pid) (s : ProcessState) (by_link traps own : Bool) (from : Pid) (r : Reason)
      → Each (TellsItem start past q) (obey (verdict by_link traps own from r) s).items
  obeyed past q s false traps own from Kill = tt
  obeyed past q s by_link true own from r = (tt, tt)
  obeyed past q s by_link false false from Normal = tt
  obeyed past q s by_link false own from r = tt

  link_exited : (past : Past) (q : Pid) (known : Bool) (me : Pid) (s : ProcessState) (from : Pid) (r : Reason)
      → Each (TellsItem start past q) (link_exit known me s from r).items
  link_exited past q false me s from r = tt
  link_exited past q true me s from r = obeyed past q _ true s.traps (same_pid from me) from r

  downed : (past : Past) (q : Pid) (o : Option Pid) (s : ProcessState) (from : Pid) (m : Ref) (r : Reason) → Each (TellsItem start past q) (down o s from m r).items
  downed past q None s from m r = tt
  downed past q (Some t) s from m r = (tt, tt)

  handled : (past : Past) (q : Pid) (s : ProcessState) (a : Pid) (x : Signal) → Tells start past a q x → Each (TellsItem start past q) (handle q s a x).items
  handled past q s a (Message b) h = (tt, tt)
  handled past q s a (Signal.Exit r) h = obeyed past q s false s.traps (same_pid a q) a r
  handled past q s a (LinkExit ids r) h = link_exited past q (holds_any (held s.links a) ids) q s a r
  handled past q s a (Signal.Down m r) h = downed past q (lookup (same_ref m) s.watching) s a m r
  handled past q s a (AliveSay m x) h = (h, tt)
  handled past q s a _ h = tt

  items_tell : (past : Past) (q a : Pid) (x : Signal) (f : Phase) → Tells start past a q x → Each (TellsItem start past q) (items_of f q a x)
  items_tell past q a x unborn h = tt
  items_tell past q a x (living s) h = handled past q s a x h
  items_tell past q a x (ended r s) h = tt

  arrival : (past : Past) (q : Pid) (e : Event) → May start past e → Each (Fine past) (flying start past) → Each (TellsItem start past q) (arrives start past q e)
  arrival past q (Came a b x) h k = go (same_pid q b) refl
    where
      told : Tells start past a b x
      told = each-found (Fine past) (is_between a b) (flying start past) (sent a b x) h k

      go : (c : Bool) → same_pid q b ≡ c → Each (TellsItem start past q) (cond c (items_of (life start past q) q a x) [])
      go true e = items_tell past q a x (life start past q) (subst (λ b. Tells start past a b x) (sym (same_pid_is q b e)) told)
      go false e = tt
  arrival past q _ h k = tt

  arrivals : (past : Past) (q : Pid) → IsLegal start past → Each (TellsItem start past q) (arrived_since start past q)
  arrivals [] q h = tt
  arrivals (e ∷ past) q h =
      each-append (TellsItem start (e ∷ past) q) _ _
      (each-weaker (TellsItem start past q) (TellsItem start (e ∷ past) q) (item_later past e q) (arrived_since start past q) (arrivals past q h.1))
      (each-weaker (TellsItem start past q) (TellsItem start (e ∷ past) q) (item_later past e q) (arrives start past q e) (arrival past q e h.0 (fine past h.1)))

-- where the question was asked --------------------------------------------------------------------------

abbrev IsNoAsk : Signal → Type 0
IsNoAsk (AliveAsk m) = ⊥
IsNoAsk _ = ⊤

abbrev AsksNot : Sent → Type 0
AsksNot l = IsNoAsk l.signal

no_ask_estate : (me : Pid) (s : ProcessState) (r : Reason) → Each AsksNot (estate me s r)
no_ask_estate me s r =
    each-append AsksNot _ _
    (each-append AsksNot _ _ (each-map AsksNot (λ (e : Pid × Ids). sent me e.0 (LinkExit e.1 r)) (λ x. tt) s.links)
    (each-map AsksNot (λ (k : Ref × Pid). sent me k.1 (Signal.Down k.0 r)) (λ x. tt) s.kept))
    (each-map AsksNot (λ (m : Ref × Pid). sent me m.1 (Demonitor m.0)) (λ x. tt) s.watching)

no_ask_end : (me : Pid) (o : Option Reason) (s : ProcessState) → Each AsksNot (end_sends me o s)
no_ask_end me None s = tt
no_ask_end me (Some r) s = no_ask_estate me s r

no_ask_bounce : (b a : Pid) (x : Signal) → Each AsksNot (bounce b a x)
no_ask_bounce b a (AliveAsk m) = (tt, tt)
no_ask_bounce b a (Link i) = (tt, tt)
no_ask_bounce b a (Monitor m) = (tt, tt)
no_ask_bounce b a _ = tt

no_ask_answer : (b a : Pid) (x : Signal) → Each AsksNot (living_answer b a x)
no_ask_answer b a (AliveAsk m) = (tt, tt)
no_ask_answer b a _ = tt

no_ask_got : (f : Phase) (b a : Pid) (x : Signal) → Each AsksNot (got_sends f b a x)
no_ask_got unborn b a x = no_ask_bounce b a x
no_ask_got (ended r s) b a x = no_ask_bounce b a x
no_ask_got (living s) b a x =
    each-append AsksNot _ _ (subst (Each AsksNot) (sym (handle_answer b s a x)) (no_ask_answer b a x))
    (no_ask_end b (handle b s a x).ending (handle b s a x).state)

no_ask_left : (f : Phase) (p : Pid) (r : Reason) → Each AsksNot (left_sends f p r)
no_ask_left unborn p r = tt
no_ask_left (living s) p r = no_ask_estate p s r
no_ask_left (ended w s) p r = tt

no_ask_between : (q t : Pid) (ls : List Sent) → Each AsksNot ls → Each IsNoAsk (between q t ls)
no_ask_between q t [] h = tt
no_ask_between q t (l ∷ ls) h = go (is_between q t l) refl (no_ask_between q t ls h.1)
  where
    go : (c : Bool) → is_between q t l ≡ c → Each IsNoAsk (between q t ls) → Each IsNoAsk (between q t (l ∷ ls))
    go true e ih = rw e (h.0, ih)
    go false e ih = rw e ih

record SaidThen (start : Start) (past : Past) (q t : Pid) (m : Ref) (pre : List Signal) : Type 0 where
  between : Past
  earlier : Past
  split : past ≡ between ++ Said q t (AliveAsk m) ∷ earlier
  sent_before : emitted start earlier q t ≡ pre

module _ (start : Start) (q t : Pid) (m : Ref) where
  just_said : (past : Past) (a b : Pid) (x : Signal) (pre rest post : List Signal) → pre ≡ emitted start past q t ++ rest
      → between q t (sent a b x ∷ []) ≡ rest ++ AliveAsk m ∷ post → SaidThen start (Said a b x ∷ past) q t m pre
  just_said past a b x pre rest post e f = go (same_pid q a && same_pid t b) refl
    where
      none : (rest : List Signal) → [] ≡ rest ++ AliveAsk m ∷ post → ⊥
      none [] h = cc
      none (y ∷ ys) h = cc

      one : (rest : List Signal) → x ∷ [] ≡ rest ++ AliveAsk m ∷ post → (rest ≡ []) × (x ≡ AliveAsk m)
      one [] h = let k : x ≡ AliveAsk m = cc in (refl, k)
      one (y ∷ ys) h = let k : [] ≡ ys ++ AliveAsk m ∷ post = cc in absurd (none ys k)

      go : (c : Bool) → (same_pid q a && same_pid t b) ≡ c → SaidThen start (Said a b x ∷ past) q t m pre
      go true g =
          let k : x ∷ [] ≡ rest ++ AliveAsk m ∷ post = rw g at f in
          let o = one rest k in
          let p = and_parts _ _ g in
          let e1 = same_pid_is q a p.0 in
          let e2 = same_pid_is t b p.1 in
          record {
            between = [];
            earlier = past;
            split = λ i. Said (sym e1 i) (sym e2 i) (o.1 i) ∷ past;
            sent_before = sym (e ∙ ap (λ z. emitted start past q t ++ z) o.0 ∙ append-nil _);
          }
      go false g = let k : [] ≡ rest ++ AliveAsk m ∷ post = rw g at f in absurd (none rest k)

  never_there : (ls : List Sent) (rest post : List Signal) → Each AsksNot ls → between q t ls ≡ rest ++ AliveAsk m ∷ post → ⊥
  never_there ls rest post h e = each-at IsNoAsk rest post (AliveAsk m) (subst (Each IsNoAsk) e (no_ask_between q t ls h))

  newly : (past : Past) (e : Event) (pre rest post : List Signal) → pre ≡ emitted start past q t ++ rest
      → between q t (sent_by start past e) ≡ rest ++ AliveAsk m ∷ post → SaidThen start (e ∷ past) q t m pre
  newly past (Said a b x) pre rest post e f = just_said past a b x pre rest post e f
  newly past (Came a b x) pre rest post e f = absurd (never_there _ rest post (no_ask_got (life start past b) b a x) f)
  newly past (Left p r) pre rest post e f = absurd (never_there _ rest post (no_ask_left (life start past p) p r) f)
  newly past _ pre rest post e f = absurd (never_there [] rest post tt f)

  -- a question that is among what q sent t was said when all before it had been sent
  was_said : (past : Past) (pre post : List Signal) → emitted start past q t ≡ pre ++ AliveAsk m ∷ post → SaidThen start past q t m pre
  was_said [] pre post e = absurd (never_there [] pre post tt e)
  was_said (ev ∷ past) pre post e =
      ⊎_elim
      (λ (a : (rest : List Signal) × (emitted start past q t ≡ pre ++ AliveAsk m ∷ rest)).
      let s = was_said past pre a.0 a.1 in
      record { between = ev ∷ s.between; earlier = s.earlier; split = ap (λ z. ev ∷ z) s.split; sent_before = s.sent_before })
      (λ (b : (rest : List Signal) × (pre ≡ emitted start past q t ++ rest) × (between q t (sent_by start past ev) ≡ rest ++ AliveAsk m ∷ post)).
      newly past ev pre b.0 post b.1 b.2)
      (split_cases (emitted start past q t) (between q t (sent_by start past ev)) pre post (AliveAsk m) (sym (between-append q t _ (sent_by start past ev)) ∙ e))

  older_legal : (later past : Past) → IsLegal start (later ++ past) → IsLegal start past
  older_legal [] past h = h
  older_legal (e ∷ later) past h = older_legal later past h.1

  answered : (past : Past) (x : Bool) → IsLegal start past → CameThen start past q t m x → IsAnswer start past q t m x
  answered past x h c =
      let l : IsLegal start (Came q t (AliveAsk m) ∷ c.before) = older_legal c.later _ (subst (IsLegal start) c.split h) in
      let s = was_said c.before (came c.before q t) _ (came_or_flies start c.before q t l.1 ∙ ap (λ z. came c.before q t ++ z) (landed_same q t (AliveAsk m) (flying start c.before) l.0)) in
      record {
        later = c.later;
        between = s.between;
        earlier = s.earlier;
        asked = c.split ∙ ap (λ z. c.later ++ Came q t (AliveAsk m) ∷ z) s.split;
        truth = c.truth ∙ ap (λ z. alive start z t) s.split;
        behind = ap (λ z. came z q t) (sym s.split) ∙ sym s.sent_before;
      }

pub answers_true : (start : Start) (past : Past) (q t : Pid) (m : Ref) (x : Bool) → IsLegal start past → Contains (arrived_since start past q) (Item.Alive m t x)
    → IsAnswer start past q t m x
answers_true start past q t m x h c =
    answered start q t m past x h (each-contains (TellsItem start past q) (arrived_since start past q) (Item.Alive m t x) (arrivals start past q h) c)
