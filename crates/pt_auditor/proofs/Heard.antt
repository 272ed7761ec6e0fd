-- What a hearing knows after one event, or one letter, more.
use Rattle.std.proofs.Common.{◌≡◌, ℕ, ◌+◌, ◌-◌, ◌^◌, ◌==◌, min, max, ◌<◌, ◌≤◌, Bool, true, false, not, cond, Option, Some, None, is_some, ◌⊎◌, inl, inr, nat_lt, ◌&&◌, ◌||◌, ap₂, List, [], ◌∷◌, drop, length, slice_get, refl, ap, sym, ◌∙◌, subst, arith}
use Rattle.std.specs.List.{find, list_any}
use Rattle.std.specs.Option.{option_map}
use Rattle.std.proofs.lemmas.Bool.{and_parts, or_cases, eqb-true, ltb-true, lt-ltb, eq-eqb}
use Rattle.pt_signal.specs.declared.pid.Pid.{Pid}
use Rattle.pt_signal.specs.declared.signal.Signal.{Signal}
use Rattle.pt_signal.specs.Process.{Sent, sent}
use Rattle.pt_signal.specs.Values.{same_ref, same_link, without_first}
use Rattle.pt_events.specs.declared.event.Event.{Event}
use Rattle.pt_events.specs.declared.event.Event.TheVariants.{Born, Said, Came, Took, Flag, Left, Refused}
use Rattle.pt_events.specs.declared.event.Stamped.{Stamped}
use Rattle.pt_events.specs.Journal.{events, clock, of_desk}
use Rattle.pt_events.specs.History.{Past, is_between, sent_by}
use Rattle.pt_events.specs.Leaving.{outcome}
use Rattle.pt_judge.specs.declared.cause.Cause.{Cause}
use Rattle.pt_judge.specs.declared.cause.Cause.TheVariants.{NotFront}
use Rattle.pt_judge.specs.Judging.{JudgeState, now_is, known_state, cause, is_signal}
use Rattle.pt_judge.proofs.Judged.{front_found, front_not_found}
use Rattle.pt_signal.specs.declared.letter.LeftOver.{LeftOver}
use Rattle.pt_auditor.specs.declared.objection.Contradiction.{Contradiction}
use Rattle.pt_auditor.specs.declared.objection.Objection.TheVariants.{MayNot, OtherLetter, OfNoNode}
use Rattle.pt_auditor.specs.declared.desks.Desks.{Desks}
use Rattle.pt_auditor.specs.declared.hearing.Hearing.{Hearing}
use Rattle.pt_auditor.specs.declared.hearing.Verdict.{Verdict}
use Rattle.pt_auditor.specs.declared.foreign.Foreign.{Foreign}
use Rattle.pt_auditor.specs.declared.foreign.NoNode.{NoNode}
use Rattle.pt_auditor.specs.Objecting.{contradiction}
use Rattle.pt_auditor.specs.Lanes.{letters_laid, is_lane, stamp_noted, letters_flying, letters_still, lane, clock_of}
use Rattle.pt_auditor.specs.Seen.{shows_end, is_noted}
use Rattle.pt_auditor.specs.Foreigners.{last_lane, IsOrigin, ComesInOrder, MayBegin, Decides, IsFromNode, IsJudgedForeign, IsLeftByNode, IsJudgedLeft, AllFromNode, IsCarried, first_foreign, no_node, no_left}
use Rattle.pt_auditor.specs.Hearings.{Heard, IsHeard, IsObjection, IsMisfit, IsOldest, IsOfItsDesks, IsSunk, IsWithout, AllTold, newest, is_above, still, left_flying, with_letter, IsVerdict, MayHear, LettersAreTold, with_event}
use Rattle.pt_events.specs.Counting.{capped}
use Rattle.pt_auditor.specs.Hearings.{IsNodeAfter, TellsBegin, IsAfterEvent, IsAfterRest, is_late, follows, strange}
use Rattle.pt_auditor.proofs.Rested.{after_next, named_late, all_late, may_come, may_not_come, contradicts, MakesLate}
use Rattle.pt_auditor.proofs.Carried.{ComesInOrderOf, carried, landed_lane, sends_are}
use Rattle.pt_auditor.proofs.Origins.{judged, begin_told, left_judged, origin_more, left_more, none_named}

none_left : (left : List LeftOver) → length left ≡ 0 → left ≡ []
none_left [] h = refl
none_left (l ∷ left) h = absurd (omega (arith, h))

none_first : (xs : List Sent) → slice_get xs 0 ≡ None → xs ≡ []
none_first [] h = refl
none_first (x ∷ xs) h = absurd (cc)

-- no line is named, so a node prints the next one
pub asked_none : (o : Option Foreign) (b : Bool) → is_some o ≡ not b → o ≡ None → b ≡ true
asked_none None true h n = refl
asked_none None false h n = absurd (cc)
asked_none (Some f) b h n = absurd (cc)

order_of : (past : List Stamped) (e : Event) → ComesInOrder past e → ComesInOrderOf (letters_flying past) e
order_of past (Came a b x) o = o
order_of past (Born p parent link) o = tt
order_of past (Said a b x) o = tt
order_of past (Took p i m) o = tt
order_of past (Flag p on) o = tt
order_of past (Left p r) o = tt
order_of past (Refused a b) o = tt

clock_next : (past : List Stamped) (s : Stamped) (d : ℕ) → cond (s.desk == d) s.stamp (clock_of d past) ≡ clock_of d (s ∷ past)
clock_next past s d = go (s.desk == d)
  where
    go : (c : Bool) → cond c s.stamp (clock_of d past) ≡ clock 0 (cond c (s ∷ of_desk d past) (of_desk d past))
    go true = refl
    go false = refl

or_true : (b : Bool) → (b || true) ≡ true
or_true true = refl
or_true false = refl

-- by stamp and desk, what comes after an event that comes after another comes after that
follows_trans : (t s u : Stamped) → follows t s ≡ true → follows s u ≡ true → follows t u ≡ true
follows_trans t s u h k = go (or_cases (nat_lt t.stamp s.stamp) ((t.stamp == s.stamp) && nat_lt t.desk s.desk) h) (or_cases (nat_lt s.stamp u.stamp) ((s.stamp == u.stamp) && nat_lt s.desk u.desk) k)
  where
    lower : t.stamp < u.stamp → follows t u ≡ true
    lower l = rw (lt-ltb t.stamp u.stamp l) refl

    go : (nat_lt t.stamp s.stamp ≡ true) ⊎ (((t.stamp == s.stamp) && nat_lt t.desk s.desk) ≡ true) → (nat_lt s.stamp u.stamp ≡ true) ⊎ (((s.stamp == u.stamp) && nat_lt s.desk u.desk) ≡ true) → follows t u ≡ true
    go (inl e) (inl f) = lower (omega (arith, ltb-true t.stamp s.stamp e, ltb-true s.stamp u.stamp f))
    go (inl e) (inr f) = let p = and_parts (s.stamp == u.stamp) (nat_lt s.desk u.desk) f in lower (omega (arith, ltb-true t.stamp s.stamp e, eqb-true s.stamp u.stamp p.0))
    go (inr e) (inl f) = let p = and_parts (t.stamp == s.stamp) (nat_lt t.desk s.desk) e in lower (omega (arith, ltb-true s.stamp u.stamp f, eqb-true t.stamp s.stamp p.0))
    go (inr e) (inr f) =
        let p = and_parts (t.stamp == s.stamp) (nat_lt t.desk s.desk) e in
        let q = and_parts (s.stamp == u.stamp) (nat_lt s.desk u.desk) f in
        let same : (t.stamp == u.stamp) ≡ true = eq-eqb t.stamp u.stamp (eqb-true t.stamp s.stamp p.0 ∙ eqb-true s.stamp u.stamp q.0) in
        let less : nat_lt t.desk u.desk ≡ true = lt-ltb t.desk u.desk (omega (arith, ltb-true t.desk s.desk p.1, ltb-true s.desk u.desk q.1)) in
        rw (same, less) (or_true (nat_lt t.stamp u.stamp))

pub later : (since : Option Stamped) (s u : Stamped) → is_late since s.desk s.stamp ≡ true → follows s u ≡ true → is_late since u.desk u.stamp ≡ true
later None s u h k = refl
later (Some t) s u h k = follows_trans t s u h k

made_from_first : (since : Option Stamped) (past : Past) (j : JudgeState) (z : IsAfterRest since past j) (e : Event) → since ≡ None → MakesLate since past j z e
made_from_first None past j z e f = all_late past j z e
made_from_first (Some u) past j z e f = absurd (cc)

module _ (t : Heard) (h : Hearing) (k : IsHeard t h) where
  pub no_letters : h.letters ≤ 0 → t.left ≡ []
  no_letters z = none_left t.left (omega (arith, z, k.letters))

  pub some_letters : 0 < h.letters → ¬ (t.left ≡ [])
  some_letters z e = omega (arith, z, k.letters, ap length e)

  -- where no letter was told of, the state is what the events lead to
  pub state_after : t.left ≡ [] → IsAfterRest t.since (events t.events) h.state
  state_after e = record {
    links_made = k.knows.links_made;
    links_only = k.knows.links_only;
    refs_made = k.knows.refs_made;
    refs_only = k.knows.refs_only;
    alike = k.knows.alike;
    flies = k.flies ∙ ap (still (left_flying t.events)) e;
  }

  -- what the desks have, where no letter was told of
  node_now : t.left ≡ [] → h.foreign ≡ None → IsNodeAfter t.events [] h.node
  node_now e n = subst (λ l. IsNodeAfter t.events l h.node) e (k.node n)

  origin_now : t.left ≡ [] → IsOrigin t.events [] h.foreign
  origin_now e = subst (λ l. IsOrigin t.events l h.foreign) e k.origin

  pub all_of_node : t.left ≡ [] → h.foreign ≡ None → AllFromNode t.events
  all_of_node e n = let all : IsOrigin t.events [] None = subst (IsOrigin t.events []) n (origin_now e) in all.0

  judged_now : (s : Stamped) → t.left ≡ [] → is_above (newest t.events) s ≡ true → h.foreign ≡ None → IsJudgedForeign t.events s (no_node h.node h.state s)
  judged_now s e a n = judged t.events h.node h.state s (node_now e n) (all_of_node e n) k.stands.rising a t.since (state_after e)

  -- the first line that no node prints, after one event more
  pub origin_after : (s : Stamped) → t.left ≡ [] → is_above (newest t.events) s ≡ true → IsOrigin (s ∷ t.events) [] (first_foreign h.foreign (no_node h.node h.state s) (min (h.events + 1) (2 ^ 64 - 1)))
  origin_after s e a = origin_more t.events s (min (h.events + 1) (2 ^ 64 - 1)) h.foreign (no_node h.node h.state s) (omega (arith, k.count)) (origin_now e) (judged_now s e a)

  -- what the desks have after one event more, where a node prints it
  pub node_after : (s : Stamped) → t.left ≡ [] → is_above (newest t.events) s ≡ true → (of_node : Bool) (new : JudgeState) (m : Desks) (o : Option Foreign)
      → o ≡ first_foreign h.foreign (no_node h.node h.state s) (min (h.events + 1) (2 ^ 64 - 1)) → (o ≡ None → of_node ≡ true) → IsAfterEvent of_node s h.state h.node new m → o ≡ None → IsNodeAfter (s ∷ t.events) [] m
  node_after s e a of_node new m o is asked w n =
      let none = none_named h.foreign (no_node h.node h.state s) (min (h.events + 1) (2 ^ 64 - 1)) (sym is ∙ n) in
      let node = node_now e none.0 in
      let from : IsFromNode t.events s = subst (IsJudgedForeign t.events s) none.1 (judged_now s e a none.0) in
      let moved = w.node (asked n) in
      let past = events t.events in
      let before = state_after e in
      record {
        lanes = carried (letters_flying t.events) s.stamp s.event (sent_by [] past s.event) h.node.lanes m.lanes node.lanes (order_of t.events s.event from.order)
            (subst (λ z. IsCarried s.stamp s.event z h.node.lanes m.lanes) (sends_are past s.event h.state new w.step before.flies (after_next t.since past h.state new before s.event w.step).flies) moved.lanes);
        clocks = λ d. moved.clocks d ∙ ap (λ z. cond (s.desk == d) s.stamp z) (node.clocks d) ∙ clock_next t.events s d;
        seen = λ d p. moved.seen d p ∙ ap (λ z. shows_end d p s.event || z) (node.seen d p);
        turn = moved.left ∙ node.turn;
        newest = moved.newest;
        begun = subst (λ b. Decides b (MayBegin t.events s.stamp)) (sym moved.begun_is)
            (begin_told t.events h.node h.state s node (all_of_node e none.0) k.stands.rising a from.named.stamp.0 before.flies);
      }

  still_of_node : (s : Stamped) → is_some t.since ≡ true → t.left ≡ [] → strange h s ≡ None → first_foreign h.foreign (no_node h.node h.state s) (min (h.events + 1) (2 ^ 64 - 1)) ≡ None
  still_of_node s o e w = go h.since (ap is_some k.since ∙ o) w
    where
      go : (r : Option Stamped) → is_some r ≡ true → cond (is_some r) (no_node h.node h.state s) None ≡ None → first_foreign h.foreign (no_node h.node h.state s) (min (h.events + 1) (2 ^ 64 - 1)) ≡ None
      go None f v = absurd (cc)
      go (Some u) f v = ap₂ (λ a b. first_foreign a b (min (h.events + 1) (2 ^ 64 - 1))) (k.of_node o e) v

  -- one event more
  pub one_event : (s : Stamped) (new : Hearing) → MayHear t s → IsAfterRest t.since (s.event ∷ events t.events) new.state → new.last ≡ Some s → new.events ≡ min (h.events + 1) (2 ^ 64 - 1) → new.desks ≡ max h.desks (s.desk + 1) → new.letters ≡ 0
      → new.foreign ≡ first_foreign h.foreign (no_node h.node h.state s) (min (h.events + 1) (2 ^ 64 - 1)) → (new.foreign ≡ None → IsNodeAfter (s ∷ t.events) [] new.node) → new.since ≡ h.since → strange h s ≡ None → IsHeard (with_event s t) new
  one_event s new m a l e d z f node r own = record {
    stands = record { legal = (m.2, k.stands.legal); rising = (m.1, k.stands.rising); told = subst (LettersAreTold (left_flying (s ∷ t.events))) (sym m.0) tt };
    knows = record { links_made = a.links_made; links_only = a.links_only; refs_made = a.refs_made; refs_only = a.refs_only; alike = a.alike; flies = refl };
    flies = a.flies ∙ ap (still (left_flying (s ∷ t.events))) (sym m.0);
    last = l;
    count = omega (arith, e, k.count);
    desks = d ∙ ap (λ n. max n (s.desk + 1)) k.desks;
    letters = z ∙ ap (λ left. capped (length left)) (sym m.0);
    origin = subst (λ left. IsOrigin (s ∷ t.events) left new.foreign) (sym m.0) (subst (IsOrigin (s ∷ t.events) []) (sym f) (origin_after s m.0 m.1));
    node = λ n. subst (λ left. IsNodeAfter (s ∷ t.events) left new.node) (sym m.0) (node n);
    since = r ∙ k.since;
    late = λ u b. later t.since s u (k.late s m.1) b;
    of_node = λ o e. f ∙ still_of_node s o m.0 own;
  }

  pub above : (s : Stamped) (o : Option Stamped) → IsSunk h.last s o → o ≡ None → is_above (newest t.events) s ≡ true
  above s None u z = subst (λ l. is_above l s ≡ true) k.last u
  above s (Some x) u z = absurd (cc)

  pub may_not : (s : Stamped) (c : Cause) (against : Contradiction) → t.left ≡ [] → is_above (newest t.events) s ≡ true → cause (known_state h.state) s.event ≡ Some c
      → against ≡ contradiction (known_state h.state) s.event c → IsObjection t s (MayNot c against)
  may_not s c against e a j w = (
    e,
    a,
    may_not_come t.since (events t.events) h.state (state_after e) s.event c j,
    w ∙ contradicts t.since (events t.events) h.state (state_after e) s.event c j,
  )

  -- over a rest, an event that no node prints is refused
  pub of_no_node : (s : Stamped) (why : NoNode) → t.left ≡ [] → is_above (newest t.events) s ≡ true → Some why ≡ strange h s → IsObjection t s (OfNoNode why)
  of_no_node s why e a w = go h.since k.since w
    where
      go : (o : Option Stamped) → o ≡ t.since → Some why ≡ cond (is_some o) (no_node h.node h.state s) None → IsObjection t s (OfNoNode why)
      go None f v = absurd (cc)
      go (Some u) f v =
          let over : is_some t.since ≡ true = ap is_some (sym f) in
          (e, a, over, subst (IsJudgedForeign t.events s) (sym v) (judged_now s e a (k.of_node over e)))

  -- what the event makes is not older than the rest, if it is not refused
  made_late : (s : Stamped) (e : t.left ≡ []) → is_above (newest t.events) s ≡ true → strange h s ≡ None → MakesLate t.since (events t.events) h.state (state_after e) s.event
  made_late s e a w = go t.since refl (k.since) (state_after e)
    where
      go : (o : Option Stamped) → t.since ≡ o → h.since ≡ t.since → (z : IsAfterRest t.since (events t.events) h.state) → MakesLate t.since (events t.events) h.state z s.event
      go None f g z = made_from_first t.since (events t.events) h.state z s.event f
      go (Some u) f g z =
          let over : is_some t.since ≡ true = ap is_some f in
          let none : no_node h.node h.state s ≡ None = sym (ap (λ o. cond (is_some o) (no_node h.node h.state s) None) (g ∙ f)) ∙ w in
          let from : IsFromNode t.events s = subst (IsJudgedForeign t.events s) none (judged_now s e a (k.of_node over e)) in
          named_late t.since (events t.events) h.state z s.desk s.stamp s.event (k.late s a) from.named.new_at

  pub may_hear : (s : Stamped) → t.left ≡ [] → is_above (newest t.events) s ≡ true → cause (known_state h.state) s.event ≡ None → strange h s ≡ None → MayHear t s
  may_hear s e a c w = (e, a, may_come t.since (events t.events) h.state (state_after e) s.event (made_late s e a w) c)

  -- what the desks have after one letter left over more, where a node prints it
  node_left : (l : LeftOver) (new : Hearing) → IsWithout l h new → new.foreign ≡ None → IsNodeAfter t.events (l ∷ t.left) new.node
  node_left l new w n =
      let none = none_named h.foreign (no_left h.node l) (min (min (h.events + h.letters) (2 ^ 64 - 1) + 1) (2 ^ 64 - 1)) (sym w.foreign ∙ n) in
      let node = k.node none.0 in
      let letters = letters_still (letters_flying t.events) t.left in
      let a = l.letter.from in
      let b = l.letter.to in
      let of_node : IsLeftByNode letters (last_lane t.left) l = subst (IsJudgedLeft letters (last_lane t.left) l) none.1 (left_judged letters h.node (last_lane t.left) l node.lanes node.turn) in
      record {
        lanes = λ d e. w.lanes d e ∙ ap (λ z. cond (is_lane a.shard b.shard (d, e)) (drop 1 z) (letters_laid h.node.lanes d e)) (node.lanes a.shard b.shard)
            ∙ ap (λ z. cond (is_lane a.shard b.shard (d, e)) (drop 1 (lane a.shard b.shard letters)) z) (node.lanes d e)
            ∙ sym (landed_lane a b letters of_node.order.first of_node.order.there of_node.order.between d e);
        clocks = λ d. ap (λ z. stamp_noted z.clocks d) w.node ∙ node.clocks d;
        seen = λ d p. ap (λ z. is_noted z.seen d p) w.node ∙ node.seen d p;
        turn = ap (λ z. z.left) w.node;
        newest = ap (λ z. z.newest) w.node ∙ node.newest;
        begun = subst (TellsBegin t.events) (sym (ap (λ z. z.begun) w.node)) node.begun;
      }

  -- one letter more
  pub one_letter : (l : LeftOver) (new : Hearing) → IsOfItsDesks l → IsOldest h.state.flights l → IsWithout l h new → IsHeard (with_letter l t) new
  one_letter l new d o w = record {
    stands = record { legal = k.stands.legal; rising = k.stands.rising; told = ((d, subst (λ f. IsOldest f l) k.flies o), k.stands.told) };
    knows = record {
      links_made = λ i b. ap (λ z. list_any (same_link i) z.links) w.state ∙ k.knows.links_made i b;
      links_only = λ i b. k.knows.links_only i (sym (ap (λ z. list_any (same_link i) z.links) w.state) ∙ b);
      refs_made = λ m b. ap (λ z. list_any (same_ref m) z.refs) w.state ∙ k.knows.refs_made m b;
      refs_only = λ m b. k.knows.refs_only m (sym (ap (λ z. list_any (same_ref m) z.refs) w.state) ∙ b);
      alike = λ p. ap (λ z. outcome (now_is z p)) w.state ∙ k.knows.alike p;
      flies = refl;
    };
    flies = ap (λ z. z.flights) w.state ∙ ap (without_first (is_between l.letter.from l.letter.to)) k.flies;
    last = w.last ∙ k.last;
    count = w.count ∙ k.count;
    desks = w.desks ∙ k.desks;
    letters = omega (arith, w.letters, k.letters);
    origin = subst (IsOrigin t.events (l ∷ t.left)) (sym w.foreign)
        (left_more t.events t.left l (min (min (h.events + h.letters) (2 ^ 64 - 1) + 1) (2 ^ 64 - 1)) h.foreign (no_left h.node l) (omega (arith, k.count, k.letters)) k.origin
        (λ n. left_judged (letters_still (letters_flying t.events) t.left) h.node (last_lane t.left) l (k.node n).lanes (k.node n).turn));
    node = node_left l new w;
    since = w.since ∙ k.since;
    late = k.late;
    of_node = λ o e. absurd (cc);
  }

  pub other_letter : (l : LeftOver) (o : Option Signal) → IsOfItsDesks l → ¬ IsOldest h.state.flights l → o ≡ option_map (λ (f : Sent). f.signal) (find (is_between l.letter.from l.letter.to) h.state.flights)
      → IsMisfit t l (OtherLetter o)
  other_letter l o d n e = (
    d,
    subst (λ f. ¬ IsOldest f l) k.flies n,
    e ∙ ap (λ f. option_map (λ (f : Sent). f.signal) (find (is_between l.letter.from l.letter.to) f)) k.flies,
  )

  pub all_told : slice_get h.state.flights 0 ≡ None → AllTold t
  all_told e = none_first (still (left_flying t.events) t.left) (subst (λ f. slice_get f 0 ≡ None) k.flies e)

  pub verdict_is : (v : Verdict) → v.events ≡ h.events → v.desks ≡ h.desks → v.letters ≡ h.letters → v.foreign ≡ h.foreign → IsVerdict t v
  verdict_is v e d l f = record { events = e ∙ k.count; desks = d ∙ k.desks; letters = l ∙ k.letters; origin = subst (IsOrigin t.events t.left) (sym f) k.origin }

-- what may come next from the one to the other
pub comes_next : (s : JudgeState) (a b : Pid) (x : Signal) (o : Option Cause) → o ≡ cause (known_state s) (Came a b x) → o ≡ None → find (is_between a b) s.flights ≡ Some (sent a b x)
comes_next s a b x o h e = front_found a b x s.flights (go (is_signal (option_map (λ (l : Sent). l.signal) (find (is_between a b) s.flights)) x) (sym h ∙ e))
  where
    go : (c : Bool) → cond c None (Some NotFront) ≡ None → c ≡ true
    go true k = refl
    go false k = absurd (cc)

pub comes_not : (s : JudgeState) (a b : Pid) (x : Signal) (o : Option Cause) (c : Cause) → o ≡ cause (known_state s) (Came a b x) → o ≡ Some c → ¬ (find (is_between a b) s.flights ≡ Some (sent a b x))
comes_not s a b x o c h e = front_not_found a b x s.flights (go (is_signal (option_map (λ (l : Sent). l.signal) (find (is_between a b) s.flights)) x) (sym h ∙ e))
  where
    go : (d : Bool) → cond d None (Some NotFront) ≡ Some c → d ≡ false
    go true k = absurd (cc)
    go false k = refl
