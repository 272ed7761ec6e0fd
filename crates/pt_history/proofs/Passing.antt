-- The history of a node passes.
use Rattle.std.proofs.Common.{◌≡◌, ℕ, ◌<◌, ◌≤◌, ◌==◌, pred, Bool, true, false, cond, ◌&&◌, ◌||◌, inl, inr, Option, Some, None, List, [], ◌∷◌, ◌++◌, length, map, filter, refl, sym, ap, ◌∙◌, subst, subst₂, ⊎_elim, arith}
use Rattle.std.specs.Prelude.{slice_get, reverse, nat_lt}
use Rattle.std.proofs.lemmas.Bool.{both_ways, eq-eqb, lt-ltb, cases_lt}
use Rattle.std.proofs.lemmas.List.Elements.{filter-append}
use Rattle.pt_signal.specs.declared.letter.Letter.{Letter}
use Rattle.pt_signal.specs.declared.letter.LeftOver.{LeftOver}
use Rattle.pt_signal.specs.Process.{Sent}
use Rattle.pt_events.specs.declared.event.Event.{Event}
use Rattle.pt_events.specs.declared.event.Event.TheVariants.{Born, Said, Came, Took, Flag, Left, Refused}
use Rattle.pt_events.specs.declared.event.Stamped.{Stamped}
use Rattle.pt_events.specs.History.{Past, May, IsLegal, alive, life, is_ended, is_unborn, made_link, sent_by}
use Rattle.pt_events.specs.Journal.{Journals, IsHome, IsKnown, IsLocal, IsMerge, IsAfter, IsRising, LanesAgree, Agrees, events, letter, letters, of_desk, posts, gots}
use Rattle.pt_events.proofs.Homes.{life_home}
use Rattle.pt_events.proofs.Telling.{AllLocal, head_local, tail_local, all_home}
use Rattle.pt_laws.proofs.Merged.{merged_legal, merged_refusals}
use Rattle.pt_judge.specs.declared.cause.Cause.{Cause}
use Rattle.pt_judge.specs.declared.cause.Cause.TheVariants.{BornTwice, NotAlive, NotFront, NotFirstMatch, Unlawful}
use Rattle.pt_judge.specs.Judge.{Refuses}
use Rattle.pt_auditor.specs.declared.foreign.Foreign.{Foreign}
use Rattle.pt_auditor.specs.declared.foreign.NoNode.{NoNode}
use Rattle.pt_auditor.specs.declared.foreign.NoNode.TheVariants.{Desk, Stamp, Slot, NoVersion, OtherDesk, OtherId, Version, Unborn, Ended, Seen, Overtakes, OtherStamp, OtherTurn}
use Rattle.pt_auditor.specs.declared.objection.Objection.{Objection}
use Rattle.pt_auditor.specs.declared.objection.Objection.TheVariants.{Behind, Sinks, MayNot, OtherDesks, OtherLetter, Untold, OfNoNode, Memory}
use Rattle.pt_auditor.specs.Lanes.{letters_flying, letters_still}
use Rattle.pt_auditor.specs.Foreigners.{IsToDesk, IsNoNode, IsNoLeft, IsLeftByNode, AllLeftByNode, last_lane, IsFirstForeign, IsFirstLeft, IsOrigin, top_of}
use Rattle.pt_auditor.specs.Hearings.{follows, newest, is_above, EventsAreRising, left_flying, still, LettersAreTold, AllTold, IsObjection, IsMisfit, IsUntold}
use Rattle.pt_history.specs.Passing.{IsToldByJournals, IsToldByCalls, AllToldByJournals, AllToldByCalls, IsOfCalls, NamesForCalls, heard_of, NoneObjected, NoneMisfits, PassesAudit, left_in_turn, AreOfOneNode}
use Rattle.pt_history.proofs.Flying.{AllInOrder, laid_out}
use Rattle.pt_history.proofs.Leaving.{told_all, flying_is}

-- no objection ---------------------------------------------------------------------------------

-- what may come no cause refuses
none_refuses : (past : Past) (e : Event) (c : Cause) → May [] past e → Refuses [] past e c → ⊥
none_refuses past (Born p parent link) BornTwice m r = r m.0
none_refuses past (Born p None link) NotAlive m r = r
none_refuses past (Born p (Some q) None) NotAlive m r = both_ways (alive [] past q) r m.1
none_refuses past (Born p (Some q) (Some i)) NotAlive m r = both_ways (alive [] past q) r m.1.0
none_refuses past (Born p parent None) Unlawful m r = r
none_refuses past (Born p None (Some i)) Unlawful m r = m.1
none_refuses past (Born p (Some q) (Some i)) Unlawful m r = both_ways (made_link past i) m.1.1 r
none_refuses past (Said a b x) NotAlive m r = both_ways (alive [] past a) r m.0
none_refuses past (Said a b x) Unlawful m r = r m.1
none_refuses past (Came a b x) NotFront m r = r m
none_refuses past (Took p k i) NotAlive m r = both_ways (alive [] past p) r m.0
none_refuses past (Took p k i) NotFirstMatch m r = r m.1
none_refuses past (Flag p on) NotAlive m r = both_ways (alive [] past p) r m
none_refuses past (Left p w) NotAlive m r = both_ways (alive [] past p) r m
none_refuses past (Refused a b) NotAlive m r = both_ways (alive [] past a) r m.0
none_refuses past (Refused a b) Unlawful m r = both_ways (is_ended (life [] past b)) r m.1
none_refuses past e c m r = r

module _ (past : List Stamped) (s : Stamped) (above : is_above (newest past) s ≡ true) (may : May [] (events past) s.event) where
  not_objected : (o : Objection) → IsObjection (heard_of past []) s o → o ≡ Memory
  not_objected Behind h = absurd (h refl)
  not_objected (Sinks last) h = absurd (both_ways (is_above (newest past) s) (ap (λ o. is_above o s) h.1 ∙ h.2) above)
  not_objected (MayNot c against) h = absurd (none_refuses (events past) s.event c may h.2.0)
  not_objected (OfNoNode why) h = absurd (cc)
  not_objected Memory h = refl
  not_objected OtherDesks h = absurd h
  not_objected (OtherLetter x) h = absurd h
  not_objected (Untold a b x) h = absurd h

none_objected : (past : List Stamped) → EventsAreRising past → IsLegal [] (events past) → NoneObjected past
none_objected [] r l = tt
none_objected (s ∷ past) r l = (not_objected past s r.0 l.0, none_objected past r.1 l.1)

not_misfit : (past : List Stamped) (left : List LeftOver) (l : LeftOver) → LettersAreTold (left_flying past) (l ∷ left) → (o : Objection) → IsMisfit (heard_of past left) l o → ⊥
not_misfit past left l t OtherDesks h = h t.0.0
not_misfit past left l t (OtherLetter x) h = h.1 t.0.1
not_misfit past left l t Behind h = h
not_misfit past left l t (Sinks last) h = h
not_misfit past left l t (MayNot c against) h = h
not_misfit past left l t (OfNoNode why) h = h
not_misfit past left l t Memory h = h
not_misfit past left l t (Untold a b x) h = h

none_misfits : (past : List Stamped) (left : List LeftOver) → LettersAreTold (left_flying past) left → NoneMisfits past left
none_misfits past [] t = tt
none_misfits past (l ∷ left) t = (not_misfit past left l t, none_misfits past left t.1)

none_untold : (past : List Stamped) (left : List LeftOver) → AllTold (heard_of past left) → (o : Objection) → IsUntold (heard_of past left) o → ⊥
none_untold past left t (Untold a b x) h = let k = sym (ap (λ (z : List Sent). slice_get z 0) t) ∙ h in absurd (cc)
none_untold past left t OtherDesks h = h
none_untold past left t (OtherLetter x) h = h
none_untold past left t Behind h = h
none_untold past left t (Sinks last) h = h
none_untold past left t (MayNot c against) h = h
none_untold past left t (OfNoNode why) h = h
none_untold past left t Memory h = h

-- events that rise come after one another
follows_is : (t s : Stamped) → IsAfter s t → follows t s ≡ true
follows_is t s (inl h) = rw (lt-ltb t.stamp s.stamp h) refl
follows_is t s (inr h) = go (nat_lt t.stamp s.stamp)
  where
    go : (b : Bool) → (b || ((t.stamp == s.stamp) && nat_lt t.desk s.desk)) ≡ true
    go true = refl
    go false = rw (eq-eqb t.stamp s.stamp h.0, lt-ltb t.desk s.desk h.1) refl

rises : (merged : List Stamped) → IsRising merged → EventsAreRising merged
rises [] r = tt
rises (s ∷ []) r = (refl, tt)
rises (s ∷ t ∷ merged) r = (follows_is t s r.0.0, rises (t ∷ merged) r.1)

-- what the journals tell ------------------------------------------------------------------------

-- the journals of these events are of so many desks, which send to no other
record AreNear (count : ℕ) (merged : List Stamped) : Type 0 where
  here : (d : ℕ) → count ≤ d → of_desk d merged ≡ []
  near : (d e : ℕ) → count ≤ e → posts [] (of_desk d merged) e ≡ []

both_none : {X : Type 0} (xs ys : List X) → xs ++ ys ≡ [] → (xs ≡ []) × (ys ≡ [])
both_none [] ys h = (refl, h)
both_none (x ∷ xs) ys h = absurd (cc)

module _ (s : Stamped) (merged : List Stamped) where
  posts_apart : (d e : ℕ) (j : List Stamped) → posts [] (s ∷ j) e ≡ []
      → (posts [] j e ≡ []) × (filter (λ l. l.to.shard == e) (map (letter s.stamp) (sent_by [] (events j) s.event)) ≡ [])
  posts_apart d e j h =
      both_none (posts [] j e) (filter (λ l. l.to.shard == e) (map (letter s.stamp) (sent_by [] (events j) s.event)))
      (sym (filter-append (λ l. l.to.shard == e) (letters [] j) (map (letter s.stamp) (sent_by [] (events j) s.event))) ∙ h)

  near_tail : (count : ℕ) → AreNear count (s ∷ merged) → AreNear count merged
  near_tail count h = record {
    here = λ d k. none d (s.desk == d) (h.here d k);
    near = λ d e k. unsent d e (s.desk == d) (h.near d e k);
  }
    where
      none : (d : ℕ) (b : Bool) → cond b (s ∷ of_desk d merged) (of_desk d merged) ≡ [] → of_desk d merged ≡ []
      none d true k = absurd (cc)
      none d false k = k

      unsent : (d e : ℕ) (b : Bool) → posts [] (cond b (s ∷ of_desk d merged) (of_desk d merged)) e ≡ [] → posts [] (of_desk d merged) e ≡ []
      unsent d e true k = (posts_apart d e (of_desk d merged) k).0
      unsent d e false k = k

  own_desk : (s.desk == s.desk) ≡ true
  own_desk = eq-eqb s.desk s.desk refl

  desk_near : (count : ℕ) → count ≤ 64 → AreNear count (s ∷ merged) → s.desk < 64
  desk_near count few h = ⊎_elim (λ (k : s.desk < count). omega (arith, few, k)) (λ (k : count ≤ s.desk). absurd (none (h.here s.desk k))) (cases_lt s.desk count)
    where
      none : of_desk s.desk (s ∷ merged) ≡ [] → ⊥
      none k = let j : s ∷ of_desk s.desk merged ≡ [] = rw own_desk at k in absurd (cc)

  to_near : (count : ℕ) → count ≤ 64 → AreNear count (s ∷ merged) → (e : Event) → s.event ≡ e → IsToDesk e
  to_near count few h (Said a b x) is = ⊎_elim (λ (k : b.shard < count). omega (arith, few, k)) (λ (k : count ≤ b.shard). absurd (none (h.near s.desk b.shard k))) (cases_lt b.shard count)
    where
      none : posts [] (of_desk s.desk (s ∷ merged)) b.shard ≡ [] → ⊥
      none k =
          let j : posts [] (s ∷ of_desk s.desk merged) b.shard ≡ [] = rw own_desk at k in
          let last = (posts_apart s.desk b.shard (of_desk s.desk merged) j).1 in
          let one = sym (ap (λ z. filter (λ l. l.to.shard == b.shard) (map (letter s.stamp) (sent_by [] (events (of_desk s.desk merged)) z))) is) ∙ last in
          let there : (b.shard == b.shard) ≡ true = eq-eqb b.shard b.shard refl in
          let m = rw there at one in
          absurd (cc)
  to_near count few h (Born p parent link) is = tt
  to_near count few h (Came a b x) is = tt
  to_near count few h (Took p k i) is = tt
  to_near count few h (Flag p on) is = tt
  to_near count few h (Left p w) is = tt
  to_near count few h (Refused a b) is = tt

  -- what a journal knows of its own desk's processes the whole history does
  known_here : (low top : ℕ) → AllLocal [] low top merged → (e : Event) → IsHome s.desk e → IsKnown [] s.desk top (events (of_desk s.desk merged)) e
      → IsKnown [] s.desk (top_of e) (events merged) e
  known_here low top l (Born p parent link) home k =
      (k.0, omega arith, λ some. sym (ap is_ended (life_home [] (record p { version = pred p.version }) s.desk merged home.0 (all_home [] low top merged l))) ∙ k.2 some)
  known_here low top l (Said a b x) home k = λ here. sym (ap is_unborn (life_home [] b s.desk merged here (all_home [] low top merged l))) ∙ k here
  known_here low top l (Came a b x) home k = tt
  known_here low top l (Took p i m) home k = tt
  known_here low top l (Flag p on) home k = tt
  known_here low top l (Left p w) home k = tt
  known_here low top l (Refused a b) home k = tt

told_by_journals : (low top count : ℕ) → count ≤ 64 → (merged : List Stamped) → AllLocal [] low top merged → AreNear count merged → AllInOrder merged → AllToldByJournals merged
told_by_journals low top count few [] l n o = tt
told_by_journals low top count few (s ∷ merged) l n o =
    let next = head_local [] low top s merged l in
    let rest = tail_local [] low top s merged l in (
      record {
        desk = (desk_near s merged count few n, to_near s merged count few n s.event refl);
        stamp = (omega (arith, next.later), next.within);
        home = next.home;
        new_at = next.new_at;
        known = known_here s merged low top rest s.event next.home next.known;
        order = o.0;
      },
      told_by_journals low top count few merged rest (near_tail s merged count n) o.1,
    )

-- what is named ---------------------------------------------------------------------------------

for_calls : (past : List Stamped) (s : Stamped) (why : NoNode) → IsToldByJournals past s → IsNoNode past s why → IsOfCalls why
for_calls past s Desk t h = absurd (h t.desk)
for_calls past s Stamp t h = absurd (h.1 t.stamp)
for_calls past s Slot t h = tt
for_calls past s NoVersion t h = tt
for_calls past s OtherDesk t h = absurd (h.4 t.home)
for_calls past s OtherId t h = absurd (h.5 t.new_at)
for_calls past s Version t h = absurd (h.2 t.known)
for_calls past s Unborn t h = absurd (h.2 t.known)
for_calls past s Ended t h = tt
for_calls past s Seen t h = tt
for_calls past s Overtakes t h = absurd (h.4 t.order)
for_calls past s OtherStamp t h = tt
for_calls past s OtherTurn t h = h

not_for_calls : (past : List Stamped) (s : Stamped) (why : NoNode) → IsToldByCalls past s → IsNoNode past s why → IsOfCalls why → ⊥
not_for_calls past s Slot t h c = h.2 t.slot
not_for_calls past s NoVersion t h c = h.3 t.version
not_for_calls past s Ended t h c = h.2 t.alive
not_for_calls past s Seen t h c = h.3 t.unseen
not_for_calls past s OtherStamp t h c = h.5 t.time
not_for_calls past s Desk t h c = c
not_for_calls past s Stamp t h c = c
not_for_calls past s OtherDesk t h c = c
not_for_calls past s OtherId t h c = c
not_for_calls past s Version t h c = c
not_for_calls past s Unborn t h c = c
not_for_calls past s Overtakes t h c = c
not_for_calls past s OtherTurn t h c = c

first_for_calls : (past : List Stamped) (f : Foreign) → AllToldByJournals past → IsFirstForeign past f → (f.line ≤ length past) × IsOfCalls f.why
first_for_calls [] f t h = absurd h
first_for_calls (s ∷ past) f t (inl h) = let k = first_for_calls past f t.1 h in (omega (arith, k.0), k.1)
first_for_calls (s ∷ past) f t (inr h) = (omega (arith, h.1), for_calls past s f.why t.0 h.2)

none_foreign : (past : List Stamped) (f : Foreign) → AllToldByJournals past → AllToldByCalls past → IsFirstForeign past f → ⊥
none_foreign [] f t c h = h
none_foreign (s ∷ past) f t c (inl h) = none_foreign past f t.1 c.1 h
none_foreign (s ∷ past) f t c (inr h) = not_for_calls past s f.why c.0 h.2 (for_calls past s f.why t.0 h.2)

no_left_named : (letters : List Letter) (before : ℕ × ℕ) (l : LeftOver) (why : NoNode) → IsLeftByNode letters before l → IsNoLeft letters before l why → ⊥
no_left_named letters before l Overtakes t h = h t.order
no_left_named letters before l OtherStamp t h = h.1 t.stamp
no_left_named letters before l OtherTurn t h = h.2 t.turn
no_left_named letters before l Desk t h = h
no_left_named letters before l Stamp t h = h
no_left_named letters before l Slot t h = h
no_left_named letters before l NoVersion t h = h
no_left_named letters before l OtherDesk t h = h
no_left_named letters before l OtherId t h = h
no_left_named letters before l Version t h = h
no_left_named letters before l Unborn t h = h
no_left_named letters before l Ended t h = h
no_left_named letters before l Seen t h = h

none_left_named : (past : List Stamped) (left : List LeftOver) (f : Foreign) → AllLeftByNode (letters_flying past) left → IsFirstLeft past left f → ⊥
none_left_named past [] f t h = h
none_left_named past (l ∷ left) f t (inl h) = none_left_named past left f t.1 h
none_left_named past (l ∷ left) f t (inr h) = no_left_named (letters_still (letters_flying past) left) (last_lane left) l f.why t.0 h.2

names_for_calls : (past : List Stamped) (left : List LeftOver) → AllToldByJournals past → AllLeftByNode (letters_flying past) left → (o : Option Foreign) → IsOrigin past left o → NamesForCalls past o
names_for_calls past left t k None h = tt
names_for_calls past left t k (Some f) (inl h) = first_for_calls past f t h
names_for_calls past left t k (Some f) (inr h) = absurd (none_left_named past left f k h.1)

names_none : (past : List Stamped) (left : List LeftOver) → AllToldByJournals past → AllLeftByNode (letters_flying past) left → AllToldByCalls past → (o : Option Foreign) → IsOrigin past left o → o ≡ None
names_none past left t k c None h = refl
names_none past left t k c (Some f) (inl h) = absurd (none_foreign past f t c h)
names_none past left t k c (Some f) (inr h) = absurd (none_left_named past left f k h.1)

-- the law ---------------------------------------------------------------------------------------

module _ (low top count : ℕ) (journal : Journals) (over : ℕ → ℕ → List Letter) (merged : List Stamped) (node : AreOfOneNode low top count journal over) (m : IsMerge journal merged) where
  pub locals : AllLocal [] low top merged
  locals d = subst (IsLocal [] low top d) (sym (m.1 d)) (node.local d)

  pub agree : LanesAgree [] (λ d. of_desk d merged) over
  agree d e = subst₂ (λ x y. Agrees (posts [] x e) (gots y d) (over d e)) (sym (m.1 d)) (sym (m.1 e)) (node.agree d e)

  are_near : AreNear count merged
  are_near = record {
    here = λ d k. m.1 d ∙ node.none_beyond d k;
    near = λ d e k. ap (λ z. posts [] z e) (m.1 d) ∙ node.none_posted d e k;
  }

  legal : IsLegal [] (events merged)
  legal = (merged_legal [] low top merged over m.0 locals agree (merged_refusals [] low top journal merged m node.refusals)).legal

  nothing_over : (posted got over : List Letter) → posted ≡ [] → Agrees posted got over → over ≡ []
  nothing_over posted [] over h a = sym a ∙ h
  nothing_over [] (g ∷ got) over h a = absurd a
  nothing_over (p ∷ posted) (g ∷ got) over h a = absurd (cc)

  -- between other desks nothing is left over
  over_beyond : (d e : ℕ) → ((d < count) × (e < count) → ⊥) → over d e ≡ []
  over_beyond d e h =
      nothing_over (posts [] (journal d) e) (gots (journal e) d) (over d e)
      (⊎_elim
      (λ (k : e < count). ⊎_elim (λ (j : d < count). absurd (h (j, k))) (λ (j : count ≤ d). ap (λ z. posts [] z e) (node.none_beyond d j)) (cases_lt d count))
      (λ (k : count ≤ e). node.none_posted d e k) (cases_lt e count)) (node.agree d e)

  pub passes : PassesAudit merged (reverse (left_in_turn over count))
  passes =
      let left = reverse (left_in_turn over count) in
      let laid = laid_out low top merged over m.0 locals agree in
      let are = told_all over count (letters_flying merged) (λ d e h k. laid.flies d e) (λ d e h. laid.flies d e ∙ over_beyond d e h) in
      let flies = flying_is merged in
      let told : LettersAreTold (left_flying merged) left = subst (λ (z : List Sent). LettersAreTold z left) (sym flies) are.are.told in
      let all : AllTold (heard_of merged left) = ap (λ (z : List Sent). still z left) flies ∙ are.whole in
      let rising = rises merged m.0 in
      let events_are = told_by_journals low top count node.few merged locals are_near laid.order in
      record {
        stands = record { legal = legal; rising = rising; told = told };
        heard = none_objected merged rising legal;
        told = none_misfits merged left told;
        all_told = all;
        ends = none_untold merged left all;
        events_are = events_are;
        letters_are = are.are.by_node;
        names = names_for_calls merged left events_are are.are.by_node;
        of_node = names_none merged left events_are are.are.by_node;
      }
