-- The merge of local journals whose lanes agree is legal.
use Rattle.std.proofs.Common.{◌≡◌, ℕ, ◌≤◌, Bool, true, false, cond, ◌==◌, List, [], ◌∷◌, ◌++◌, Option, Some, None, map, filter, refl, sym, ap, ◌∙◌, subst, ⊎_elim, arith, le_refl}
use Rattle.std.specs.Map.{lookup}
use Rattle.std.proofs.lemmas.List.{map-append}
use Rattle.std.proofs.lemmas.List.Elements.{filter-append}
use Rattle.std.proofs.lemmas.Bool.{eq-eqb, and_parts, and_from, and_right}
use Rattle.std.proofs.lemmas.Bool.Decides.{nat_tests}
use Rattle.std.specs.List.{find}
use Rattle.std.specs.Prelude.{nat_lt}
use Rattle.pt_signal.specs.declared.pid.Pid.{Pid}
use Rattle.pt_signal.specs.declared.ids.Ref.{Ref}
use Rattle.pt_signal.specs.declared.ids.LinkId.{LinkId}
use Rattle.pt_signal.specs.declared.letter.Letter.{Letter}
use Rattle.pt_signal.specs.declared.signal.Signal.{Signal}
use Rattle.pt_signal.specs.declared.signal.Signal.TheVariants.{Message, Link, Unlink, Monitor, Demonitor, AliveAsk}
use Rattle.pt_events.specs.declared.event.Event.{Event}
use Rattle.pt_events.specs.declared.event.Event.TheVariants.{Born, Said, Came, Took, Flag, Left, Refused}
use Rattle.pt_events.specs.declared.event.Stamped.{Stamped}
use Rattle.pt_signal.specs.Values.{same_pid, same_ref, same_link, without_first, fits}
use Rattle.pt_signal.specs.Process.{Sent, sent, held}
use Rattle.pt_events.specs.History.{Start, life, alive, state, is_living, is_ended, state_of, is_between, flying, landed, sent_by, made_link, made_ref, makes_link, makes_ref, is_this, May, MaySay, MayBear, IsLegal}
use Rattle.pt_events.specs.Journal.{Journals, IsMerge, events, of_desk, content, IsHome, IsOf, IsNewAt, IsLinkAt, MayHere, IsNext, posts, got_of, gots, Agrees, LanesAgree, AllBefore, IsRising}
use Rattle.pt_events.specs.Refusals.{stamped_below, IsTrueRefusal, AllTrueRefusals, RefusalsAreTrue}
use Rattle.pt_signal.proofs.Same.{same_pid_is, same_pid_refl, same_ref_is, same_link_is}
use Rattle.pt_events.proofs.Telling.{AllLocal, head_local, tail_local, all_home}
use Rattle.pt_laws.proofs.Firsts.{filter_wider, filter_other, first_wider}
use Rattle.pt_laws.proofs.lanes.Lanes.{AllAt-letters, Back, back, contents}
use Rattle.pt_laws.proofs.lanes.Newest.{new_posts, new_gots, posts_step, gots_step, before_le, gots_up_to, new_up_to}
use Rattle.pt_events.proofs.Refusals.{ended_below}
use Rattle.pt_events.proofs.Homes.{in_lane, life_home}

module _ (start : Start) (low top : ℕ) where
  -- new ids and references ----------------------------------------------------------------

  -- of events before s, none makes an id of the desk and the stamp of s
  fresh_link : (s : Stamped) (merged : List Stamped) (i : LinkId) → i.desk ≡ s.desk → i.number ≡ s.stamp → AllBefore s merged → AllLocal start low top merged
      → made_link (events merged) i ≡ false
  fresh_link s [] i e f b h = refl
  fresh_link s (t ∷ merged) i e f b h =
      rw (not_this t.event (head_local start low top t merged h).new_at, fresh_link s merged i e f b.1 (tail_local start low top t merged h)) refl
    where
      differs : (j : LinkId) → (j.desk ≡ t.desk) × (j.number ≡ t.stamp) → (c : Bool) → same_link i j ≡ c → same_link i j ≡ false
      differs j k false g = g
      differs j k true g =
          let p = same_link_is i j g in
          let p1 : s.desk ≡ t.desk = sym e ∙ ap (λ z. z.desk) p ∙ k.0 in
          let p2 : s.stamp ≡ t.stamp = sym f ∙ ap (λ z. z.number) p ∙ k.1 in
          absurd (⊎_elim (λ w. omega arith) (λ w. omega (arith, w.1)) b.0)

      maybe : (link : Option LinkId) → IsLinkAt t.desk t.stamp link → is_this i link ≡ false
      maybe None k = refl
      maybe (Some j) k = differs j k _ refl

      not_this : (ev : Event) → IsNewAt t.desk t.stamp ev → makes_link i ev ≡ false
      not_this (Born q parent link) k = maybe link k
      not_this (Said a c (Link j)) k = differs j k _ refl
      not_this _ k = refl

  fresh_ref : (s : Stamped) (merged : List Stamped) (m : Ref) → m.desk ≡ s.desk → m.number ≡ s.stamp → AllBefore s merged → AllLocal start low top merged
      → made_ref (events merged) m ≡ false
  fresh_ref s [] m e f b h = refl
  fresh_ref s (t ∷ merged) m e f b h =
      rw (not_this t.event (head_local start low top t merged h).new_at, fresh_ref s merged m e f b.1 (tail_local start low top t merged h)) refl
    where
      differs : (n : Ref) → (n.desk ≡ t.desk) × (n.number ≡ t.stamp) → (c : Bool) → same_ref m n ≡ c → same_ref m n ≡ false
      differs n k false g = g
      differs n k true g =
          let p = same_ref_is m n g in
          let p1 : s.desk ≡ t.desk = sym e ∙ ap (λ z. z.desk) p ∙ k.0 in
          let p2 : s.stamp ≡ t.stamp = sym f ∙ ap (λ z. z.number) p ∙ k.1 in
          absurd (⊎_elim (λ w. omega arith) (λ w. omega (arith, w.1)) b.0)

      not_this : (ev : Event) → IsNewAt t.desk t.stamp ev → makes_ref m ev ≡ false
      not_this (Said a c (Monitor n)) k = differs n k _ refl
      not_this (Said a c (AliveAsk n)) k = differs n k _ refl
      not_this _ k = refl

  -- what the journal allows the merge allows ------------------------------------------------

  module _ (s : Stamped) (merged : List Stamped) (b : AllBefore s merged) (h : AllLocal start low top merged) where
    same_life : (p : Pid) → p.shard ≡ s.desk → life start (events (of_desk s.desk merged)) p ≡ life start (events merged) p
    same_life p e = life_home start p s.desk merged e (all_home start low top merged h)

    may_say : (a c : Pid) (x : Signal) → a.shard ≡ s.desk → IsNewAt s.desk s.stamp (Said a c x)
        → MaySay start (events (of_desk s.desk merged)) (state start (events (of_desk s.desk merged)) a) a c x
        → MaySay start (events merged) (state start (events merged) a) a c x
    may_say a c (Message body) e n k = tt
    may_say a c (Signal.Exit r) e n k = tt
    may_say a c (Link i) e n k = (fresh_link s merged i n.0 n.1 b h, ap (λ f. held (state_of f).links c) (sym (same_life a e)) ∙ k.1, k.2)
    may_say a c (Unlink ids) e n k = ap (λ f. held (state_of f).links c) (sym (same_life a e)) ∙ k
    may_say a c (Monitor m) e n k = (fresh_ref s merged m n.0 n.1 b h, k.1)
    may_say a c (Demonitor m) e n k = ap (λ f. lookup (same_ref m) (state_of f).watching) (sym (same_life a e)) ∙ k
    may_say a c (AliveAsk m) e n k = fresh_ref s merged m n.0 n.1 b h
    may_say a c _ e n k = k

    may_live : (p : Pid) → p.shard ≡ s.desk → alive start (events (of_desk s.desk merged)) p ≡ true → alive start (events merged) p ≡ true
    may_live p e k = ap is_living (sym (same_life p e)) ∙ k

    may_bear : (parent : Option Pid) (link : Option LinkId) → IsOf s.desk parent → IsLinkAt s.desk s.stamp link
        → MayBear start (events (of_desk s.desk merged)) parent link → MayBear start (events merged) parent link
    may_bear None None e n k = tt
    may_bear None (Some i) e n k = k
    may_bear (Some q) None e n k = may_live q e k
    may_bear (Some q) (Some i) e n k = (may_live q e k.0, fresh_link s merged i n.0 n.1 b h)

    -- the other of a refused call has ended by the events with lower stamps of its own desk, all of which stand before s
    other_ended : (c : Pid) → is_ended (life start (events (stamped_below s.stamp (of_desk c.shard merged))) c) ≡ true → is_ended (life start (events merged) c) ≡ true
    other_ended c k =
        subst (λ f. is_ended f ≡ true) (life_home start c c.shard merged refl (all_home start low top merged h))
        (ended_below start c low top c.shard s.stamp (of_desk c.shard merged) (h c.shard) k)

    -- every event but a receipt
    may_plain : (ev : Event) → IsHome s.desk ev → IsNewAt s.desk s.stamp ev → MayHere start (events (of_desk s.desk merged)) ev
        → IsTrueRefusal start (λ d. of_desk d merged) s.stamp ev → ((a c : Pid) (x : Signal) → ev ≡ Came a c x → May start (events merged) ev) → May start (events merged) ev
    may_plain (Born p parent link) i n k true_one came = (sym (same_life p i.0) ∙ k.0, may_bear parent link i.1 n k.1)
    may_plain (Said a c x) i n k true_one came = (may_live a i k.0, may_say a c x i n k.1)
    may_plain (Came a c x) i n k true_one came = came a c x refl
    may_plain (Took p j it) i n k true_one came = (may_live p i k.0, ap (λ f. find (fits j) (state_of f).waiting) (sym (same_life p i)) ∙ k.1)
    may_plain (Flag p on) i n k true_one came = may_live p i k
    may_plain (Left p r) i n k true_one came = may_live p i k
    may_plain (Refused a c) i n k true_one came = (may_live a i k, other_ended c true_one)

  -- refused calls --------------------------------------------------------------------------

  -- of an event that is no later than s, what comes from s on tells nothing
  below_without : (n d : ℕ) (s : Stamped) (merged : List Stamped) → n ≤ s.stamp → stamped_below n (of_desk d (s ∷ merged)) ≡ stamped_below n (of_desk d merged)
  below_without n d s merged h = go (s.desk == d)
    where
      go : (b : Bool) → stamped_below n (cond b (s ∷ of_desk d merged) (of_desk d merged)) ≡ stamped_below n (of_desk d merged)
      go true = let late : nat_lt s.stamp n ≡ false = grind (arith, nat_tests) in rw late refl
      go false = refl

  true_without : (n : ℕ) (s : Stamped) (merged : List Stamped) (e : Event) → n ≤ s.stamp
      → IsTrueRefusal start (λ d. of_desk d (s ∷ merged)) n e → IsTrueRefusal start (λ d. of_desk d merged) n e
  true_without n s merged (Refused a b) h k = subst (λ z. is_ended (life start (events z) b) ≡ true) (below_without n b.shard s merged h) k
  true_without n s merged _ h k = tt

  all_true_without : (s : Stamped) (merged noted : List Stamped) → AllBefore s noted
      → AllTrueRefusals start (λ d. of_desk d (s ∷ merged)) noted → AllTrueRefusals start (λ d. of_desk d merged) noted
  all_true_without s merged [] b h = tt
  all_true_without s merged (t ∷ noted) b h = (true_without t.stamp s merged t.event (before_le s t b.0) h.0, all_true_without s merged noted b.1 h.1)

  -- each event of a merge is one of its desk's
  all_true : (journal : Journals) (merged : List Stamped) → ((d : ℕ) → AllTrueRefusals start journal (of_desk d merged)) → AllTrueRefusals start journal merged
  all_true journal [] h = tt
  all_true journal (s ∷ merged) h = (
    (subst (λ c. AllTrueRefusals start journal (cond c (s ∷ of_desk s.desk merged) (of_desk s.desk merged))) (eq-eqb s.desk s.desk refl) (h s.desk)).0,
    all_true journal merged (λ d. tail d (s.desk == d) (h d)),
  )
    where
      tail : (d : ℕ) (b : Bool) → AllTrueRefusals start journal (cond b (s ∷ of_desk d merged) (of_desk d merged)) → AllTrueRefusals start journal (of_desk d merged)
      tail d true k = k.1
      tail d false k = k

  pub merged_refusals : (journal : Journals) (merged : List Stamped) → IsMerge journal merged → RefusalsAreTrue start journal
      → AllTrueRefusals start (λ d. of_desk d merged) merged
  merged_refusals journal merged m h = all_true (λ d. of_desk d merged) merged (subst (RefusalsAreTrue start) (λ i d. sym (m.1 d) i) h)

  -- letters that land -----------------------------------------------------------------------

  no_lead : (lead rest : List Letter) → map content lead ≡ [] → map content (lead ++ rest) ≡ map content rest
  no_lead lead rest h = map-append content lead rest ∙ ap (λ z. z ++ map content rest) h

  none_at : {X : Type 0} (b : Bool) → ◌≡◌ {A = List X} (cond b [] []) []
  none_at true = refl
  none_at false = refl

  landed_lane : (home d e n : ℕ) (ev : Event) (fl : List Sent) (lead rest : List Letter) → IsHome home ev
      → filter (in_lane d e) fl ≡ map content (lead ++ rest) → map content lead ≡ map content (cond (home == e) (got_of d n ev) [])
      → filter (in_lane d e) (landed ev fl) ≡ map content rest
  landed_lane home d e n (Came a c x) fl lead rest i f same = go (home == e) refl (a.shard == d) refl
    where
      to_lane : (home == e) ≡ true → (a.shard == d) ≡ true → (l : Sent) → is_between a c l ≡ true → in_lane d e l ≡ true
      to_lane g k l p =
          let q = and_parts _ _ p in
          let e1 = same_pid_is a l.from q.0 in
          let e2 = same_pid_is c l.to q.1 in
          and_from (l.from.shard == d) (l.to.shard == e) (rw (← e1) k) (rw (← e2, i) g)

      off_home : (home == e) ≡ false → (l : Sent) → is_between a c l ≡ true → in_lane d e l ≡ false
      off_home g l p =
          let e2 = same_pid_is c l.to (and_parts (same_pid a l.from) (same_pid c l.to) p).1 in
          let k : (l.to.shard == e) ≡ false = rw (← e2, i) g in
          and_right (l.from.shard == d) (l.to.shard == e) k

      off_from : (a.shard == d) ≡ false → (l : Sent) → is_between a c l ≡ true → in_lane d e l ≡ false
      off_from g l p =
          let e1 = same_pid_is a l.from (and_parts (same_pid a l.from) (same_pid c l.to) p).0 in
          let k : (l.from.shard == d) ≡ false = rw (← e1) g in
          rw k refl

      go : (b : Bool) → (home == e) ≡ b → (t : Bool) → (a.shard == d) ≡ t → filter (in_lane d e) (landed (Came a c x) fl) ≡ map content rest
      go true g true k =
          let one : map content lead ≡ sent a c x ∷ [] = same ∙ rw (g, k) refl in
          let all : filter (in_lane d e) fl ≡ sent a c x ∷ map content rest = f ∙ map-append content lead rest ∙ ap (λ z. z ++ map content rest) one in
          filter_wider (is_between a c) (in_lane d e) (to_lane g k) fl ∙ ap (without_first (is_between a c)) all ∙ rw (same_pid_refl a, same_pid_refl c) refl
      go true g false k =
          let none : map content lead ≡ [] = same ∙ rw (g, k) refl in
          filter_other (in_lane d e) (is_between a c) (off_from k) fl ∙ f ∙ no_lead lead rest none
      go false g t k =
          let none : map content lead ≡ [] = same ∙ rw g refl in
          filter_other (in_lane d e) (is_between a c) (off_home g) fl ∙ f ∙ no_lead lead rest none
  landed_lane home d e n _ fl lead rest i f same = f ∙ no_lead lead rest (same ∙ ap (map content) (none_at (home == e)))

  -- the theorem --------------------------------------------------------------------------------

  -- the history is legal, and what flies in it is what the lanes leave over
  pub record IsMerged (merged : List Stamped) (over : ℕ → ℕ → List Letter) : Type 0 where
    pub legal : IsLegal start (events merged)
    pub flies : (d e : ℕ) → filter (in_lane d e) (flying start (events merged)) ≡ map content (over d e)

  came_may : (s : Stamped) (merged : List Stamped) (ev : Event) → s.event ≡ ev → (lead rest : (d e : ℕ) → List Letter) → IsHome s.desk ev
      → ((d e : ℕ) → filter (in_lane d e) (flying start (events merged)) ≡ map content (lead d e ++ rest d e))
      → ((d e : ℕ) → map content (lead d e) ≡ map content (new_gots s d e))
      → (a c : Pid) (x : Signal) → ev ≡ Came a c x → May start (events merged) ev
  came_may s merged ev q lead rest i f same a c x r =
      subst (May start (events merged)) (sym r)
      (sym (first_wider (is_between a c) (in_lane a.shard c.shard) (λ l p. wide l p) (flying start (events merged)))
      ∙ ap (find (is_between a c)) (f a.shard c.shard ∙ map-append content (lead a.shard c.shard) (rest a.shard c.shard) ∙ ap (λ z. z ++ map content (rest a.shard c.shard)) one)
      ∙ rw (same_pid_refl a, same_pid_refl c) refl)
    where
      wide : (l : Sent) → is_between a c l ≡ true → in_lane a.shard c.shard l ≡ true
      wide l p =
          let e = and_parts _ _ p in
          and_from (l.from.shard == a.shard) (l.to.shard == c.shard)
          (eq-eqb _ _ (sym (ap (λ z. z.shard) (same_pid_is a l.from e.0)))) (eq-eqb _ _ (sym (ap (λ z. z.shard) (same_pid_is c l.to e.1))))

      home : c.shard ≡ s.desk
      home = subst (IsHome s.desk) r i

      one : map content (lead a.shard c.shard) ≡ sent a c x ∷ []
      one =
          same a.shard c.shard
          ∙ ap (λ z. map content (cond (s.desk == c.shard) (got_of a.shard s.stamp z) [])) (q ∙ r)
          ∙ rw (eq-eqb s.desk c.shard (sym home), eq-eqb a.shard a.shard refl) refl

  -- one event more, and the lanes as they were before it
  module _ (s : Stamped) (merged : List Stamped) (over : ℕ → ℕ → List Letter) (r : IsRising (s ∷ merged)) (h : AllLocal start low top (s ∷ merged)) (a : LanesAgree start (λ d. of_desk d (s ∷ merged)) over) where
    tail : AllLocal start low top merged
    tail = tail_local start low top s merged h

    next : IsNext start low top s.desk (of_desk s.desk merged) s
    next = head_local start low top s merged h

    backs : (d e : ℕ) → Back (posts start (of_desk d merged) e) (new_posts start s merged d e) (gots (of_desk e merged) d) (new_gots s d e) (over d e)
    backs d e =
        back s.stamp _ _ _ _ _ (AllAt-letters s.stamp (λ l. in_lane d e (content l)) (sent_by start (events merged) s.event)) (gots_up_to s merged d e r.0) (new_up_to s d e)
        (subst (λ z. Agrees z (gots (of_desk e merged) d ++ new_gots s d e) (over d e)) (posts_step start s merged d e next.home (all_home start low top merged tail))
        (subst (λ z. Agrees (posts start (of_desk d (s ∷ merged)) e) z (over d e)) (gots_step s merged d e) (a d e)))

    before : ℕ → ℕ → List Letter
    before d e = (backs d e).lead ++ (backs d e).rest

    agreed : LanesAgree start (λ d. of_desk d merged) before
    unfolding before
    agreed d e = (backs d e).agrees

    flies_more : ((d e : ℕ) → filter (in_lane d e) (flying start (events merged)) ≡ map content (before d e))
        → (d e : ℕ) → filter (in_lane d e) (flying start (events (s ∷ merged))) ≡ map content (over d e)
    unfolding before
    flies_more f d e =
        filter-append (in_lane d e) (landed s.event (flying start (events merged))) (sent_by start (events merged) s.event)
        ∙ ap (λ z. z ++ filter (in_lane d e) (sent_by start (events merged) s.event))
        (landed_lane s.desk d e s.stamp s.event (flying start (events merged)) (backs d e).lead (backs d e).rest next.home (f d e) (same_again d e))
        ∙ ap (λ z. map content (backs d e).rest ++ z) (sym (contents s.stamp (in_lane d e) (sent_by start (events merged) s.event)))
        ∙ sym (map-append content (backs d e).rest (new_posts start s merged d e))
        ∙ ap (map content) (sym (backs d e).left)
      where
        same_again : (d e : ℕ) → map content (backs d e).lead ≡ map content (cond (s.desk == e) (got_of d s.stamp s.event) [])
        same_again d e = (backs d e).same

    may_more : ((d e : ℕ) → filter (in_lane d e) (flying start (events merged)) ≡ map content (before d e))
        → IsTrueRefusal start (λ d. of_desk d merged) s.stamp s.event → May start (events merged) s.event
    unfolding before
    may_more f true_one =
        may_plain s merged r.0 tail s.event next.home next.new_at next.may true_one
        (came_may s merged s.event refl (λ d e. (backs d e).lead) (λ d e. (backs d e).rest) next.home f (λ d e. (backs d e).same))

  -- what flies, whether the refusals are true or not
  pub merged_flies : (merged : List Stamped) (over : ℕ → ℕ → List Letter) → IsRising merged → AllLocal start low top merged → LanesAgree start (λ d. of_desk d merged) over
      → (d e : ℕ) → filter (in_lane d e) (flying start (events merged)) ≡ map content (over d e)
  merged_flies [] over r h a d e = ap (map content) (a d e)
  merged_flies (s ∷ merged) over r h a d e =
      flies_more s merged over r h a (merged_flies merged (before s merged over r h a) r.1 (tail s merged over r h a) (agreed s merged over r h a)) d e

  pub merged_legal : (merged : List Stamped) (over : ℕ → ℕ → List Letter) → IsRising merged → AllLocal start low top merged
      → LanesAgree start (λ d. of_desk d merged) over → AllTrueRefusals start (λ d. of_desk d merged) merged → IsMerged merged over
  merged_legal [] over r h a true_all = record { legal = tt; flies = λ d e. ap (map content) (a d e) }
  merged_legal (s ∷ merged) over r h a true_all =
      let k = merged_legal merged (before s merged over r h a) r.1 (tail s merged over r h a) (agreed s merged over r h a) (all_true_without s merged merged r.0 true_all.1) in
      record {
        legal = (may_more s merged over r h a k.flies (true_without s.stamp s merged s.event (le_refl s.stamp) true_all.0), k.legal);
        flies = merged_flies (s ∷ merged) over r h a;
      }
