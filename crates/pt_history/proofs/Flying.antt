-- In a merge of local journals whose lanes agree the letters on their way, each with its stamp, are what the lanes leave
-- over, and each receipt is of the oldest letter of its lane.
use Rattle.std.proofs.Common.{◌≡◌, ℕ, Bool, true, false, cond, ◌==◌, List, [], ◌∷◌, ◌++◌, map, drop, refl, sym, ap, ◌∙◌, subst, arith}
use Rattle.std.specs.Prelude.{slice_get, ⊤}
use Rattle.std.proofs.lemmas.Bool.{eq-eqb, eqb-true, both_ways}
use Rattle.std.proofs.lemmas.List.Elements.{filter-append}
use Rattle.pt_signal.specs.declared.pid.Pid.{Pid}
use Rattle.pt_signal.specs.declared.letter.Letter.{Letter}
use Rattle.pt_signal.specs.declared.signal.Signal.{Signal}
use Rattle.pt_signal.specs.Process.{Sent, sent}
use Rattle.pt_signal.proofs.Same.{same_pid_refl}
use Rattle.pt_events.specs.declared.event.Event.{Event}
use Rattle.pt_events.specs.declared.event.Event.TheVariants.{Born, Said, Came, Took, Flag, Left, Refused}
use Rattle.pt_events.specs.declared.event.Stamped.{Stamped}
use Rattle.pt_events.specs.History.{is_between, sent_by}
use Rattle.pt_events.specs.Journal.{events, of_desk, letter, content, in_lane, IsHome, IsNext, posts, got_of, gots, Agrees, LanesAgree, IsRising}
use Rattle.pt_events.proofs.Telling.{AllLocal, head_local, tail_local, all_home}
use Rattle.pt_laws.proofs.lanes.Lanes.{AllAt-letters, Back, back}
use Rattle.pt_laws.proofs.lanes.Newest.{new_posts, new_gots, posts_step, gots_step, gots_up_to, new_up_to}
use Rattle.pt_auditor.specs.Lanes.{is_lane, lane, letters_flying, letters_landed, IsFirstInLane}
use Rattle.pt_auditor.specs.Foreigners.{ComesInOrder}
use Rattle.pt_auditor.proofs.Carried.{landed_lane}
use Rattle.pt_auditor.proofs.Laid.{lane_is}

-- letters that land -----------------------------------------------------------------------

none_leads : (lead : List Letter) → map content lead ≡ [] → lead ≡ []
none_leads [] h = refl
none_leads (l ∷ lead) h = absurd (cc)

one_leads : (x : Sent) (lead : List Letter) → map content lead ≡ x ∷ [] → (l : Letter) × (lead ≡ l ∷ []) × (content l ≡ x)
one_leads x [] h = absurd (cc)
one_leads x (l ∷ []) h = let k : content l ≡ x = cc in (l, refl, k)
one_leads x (l ∷ m ∷ lead) h = absurd (cc)

-- the letters that lead in a lane are those of which a receipt is the event
abbrev Lead : ℕ → ℕ → Event → (ℕ → ℕ → List Letter) → Type 0
Lead home n ev lead = (d e : ℕ) → map content (lead d e) ≡ map content (cond (home == e) (got_of d n ev) [])

module _ (home n : ℕ) (fl : List Letter) (lead rest : ℕ → ℕ → List Letter) (are : (d e : ℕ) → lane d e fl ≡ lead d e ++ rest d e) where
  plain : (d e : ℕ) → map content (lead d e) ≡ map content (cond (home == e) [] []) → lane d e fl ≡ rest d e
  plain d e same = are d e ∙ ap (λ z. z ++ rest d e) (none_leads (lead d e) (same ∙ none (home == e)))
    where
      none : (b : Bool) → map content (cond b [] []) ≡ []
      none true = refl
      none false = refl

  first_lands : (a c : Pid) (x : Signal) → c.shard ≡ home → Lead home n (Came a c x) lead → IsFirstInLane a c fl
  first_lands a c x at same =
      let h : (home == c.shard) ≡ true = eq-eqb home c.shard (sym at) in
      let k : (a.shard == a.shard) ≡ true = eq-eqb a.shard a.shard refl in
      let one = one_leads (sent a c x) (lead a.shard c.shard) (same a.shard c.shard ∙ rw (h, k) refl) in
      record {
        first = one.0;
        there = ap (λ z. slice_get z 0) (are a.shard c.shard ∙ ap (λ z. z ++ rest a.shard c.shard) one.1);
        between = ap (is_between a c) one.2 ∙ rw (same_pid_refl a, same_pid_refl c) refl;
      }

  lands : (ev : Event) → IsHome home ev → Lead home n ev lead → (d e : ℕ) → lane d e (letters_landed ev fl) ≡ rest d e
  lands (Came a c x) at same d e =
      let f = first_lands a c x at same in
      landed_lane a c fl f.first f.there f.between d e ∙ go (is_lane a.shard c.shard (d, e)) refl
    where
      go : (b : Bool) → is_lane a.shard c.shard (d, e) ≡ b → cond (is_lane a.shard c.shard (d, e)) (drop 1 (lane a.shard c.shard fl)) (lane d e fl) ≡ rest d e
      go true w =
          let p = lane_is a.shard c.shard d e w in
          let h : (home == e) ≡ true = eq-eqb home e (sym at ∙ p.1) in
          let k : (a.shard == d) ≡ true = eq-eqb a.shard d p.0 in
          let one = one_leads (sent a c x) (lead d e) (same d e ∙ rw (h, k) refl) in
          rw w (ap (λ z. drop 1 (lane z c.shard fl)) p.0 ∙ ap (λ z. drop 1 (lane d z fl)) p.1 ∙ ap (drop 1) (are d e) ∙ ap (λ z. drop 1 (z ++ rest d e)) one.1)
      go false w =
          rw w (are d e ∙ ap (λ z. z ++ rest d e) (none_leads (lead d e) (same d e ∙ none (home == e) refl (a.shard == d) refl)))
        where
          none : (p : Bool) → (home == e) ≡ p → (q : Bool) → (a.shard == d) ≡ q → map content (cond (home == e) (cond (a.shard == d) (letter n (sent a c x) ∷ []) []) []) ≡ []
          none false g q k = rw g refl
          none true g false k = rw (g, k) refl
          none true g true k =
              let there : (c.shard == e) ≡ true = eq-eqb c.shard e (at ∙ eqb-true home e g) in
              absurd (both_ways (is_lane a.shard c.shard (d, e)) w (rw (k, there) refl))
  lands (Born p parent link) at same d e = plain d e (same d e)
  lands (Said a c x) at same d e = plain d e (same d e)
  lands (Took p k i) at same d e = plain d e (same d e)
  lands (Flag p on) at same d e = plain d e (same d e)
  lands (Left p r) at same d e = plain d e (same d e)
  lands (Refused a c) at same d e = plain d e (same d e)

  order_of : (ev : Event) (past : List Stamped) → letters_flying past ≡ fl → IsHome home ev → Lead home n ev lead → ComesInOrder past ev
  order_of (Came a c x) past is at same = subst (IsFirstInLane a c) (sym is) (first_lands a c x at same)
  order_of (Born p parent link) past is at same = tt
  order_of (Said a c x) past is at same = tt
  order_of (Took p k i) past is at same = tt
  order_of (Flag p on) past is at same = tt
  order_of (Left p r) past is at same = tt
  order_of (Refused a c) past is at same = tt

-- the theorem --------------------------------------------------------------------------------

-- each receipt is of the oldest letter of its lane
abbrev pub AllInOrder : List Stamped → Type 0
AllInOrder [] = ⊤
AllInOrder (s ∷ past) = ComesInOrder past s.event × AllInOrder past

-- before each event the lanes agree, and leave over what is on its way
pub record IsAgreedAt (merged : List Stamped) : Type 0 where
  pub over : ℕ → ℕ → List Letter
  pub agree : LanesAgree [] (λ d. of_desk d merged) over
  pub flies : (d e : ℕ) → lane d e (letters_flying merged) ≡ over d e

abbrev pub AllAgreed : List Stamped → Type 0
AllAgreed [] = ⊤
AllAgreed (s ∷ past) = IsAgreedAt past × AllAgreed past

pub record IsLaidOut (merged : List Stamped) (over : ℕ → ℕ → List Letter) : Type 0 where
  pub flies : (d e : ℕ) → lane d e (letters_flying merged) ≡ over d e
  pub order : AllInOrder merged
  pub agreed : AllAgreed merged

module _ (low top : ℕ) where
  module _ (s : Stamped) (merged : List Stamped) (over : ℕ → ℕ → List Letter) (r : IsRising (s ∷ merged)) (h : AllLocal [] low top (s ∷ merged)) (a : LanesAgree [] (λ d. of_desk d (s ∷ merged)) over) where
    tail : AllLocal [] low top merged
    tail = tail_local [] low top s merged h

    next : IsNext [] low top s.desk (of_desk s.desk merged) s
    next = head_local [] low top s merged h

    backs : (d e : ℕ) → Back (posts [] (of_desk d merged) e) (new_posts [] s merged d e) (gots (of_desk e merged) d) (new_gots s d e) (over d e)
    backs d e =
        back s.stamp _ _ _ _ _ (AllAt-letters s.stamp (λ l. in_lane d e (content l)) (sent_by [] (events merged) s.event)) (gots_up_to s merged d e r.0) (new_up_to s d e)
        (subst (λ z. Agrees z (gots (of_desk e merged) d ++ new_gots s d e) (over d e)) (posts_step [] s merged d e next.home (all_home [] low top merged tail))
        (subst (λ z. Agrees (posts [] (of_desk d (s ∷ merged)) e) z (over d e)) (gots_step s merged d e) (a d e)))

    before : ℕ → ℕ → List Letter
    before d e = (backs d e).lead ++ (backs d e).rest

    agreed : LanesAgree [] (λ d. of_desk d merged) before
    unfolding before
    agreed d e = (backs d e).agrees

    more : IsLaidOut merged before → IsLaidOut (s ∷ merged) over
    unfolding before
    more k = record {
      flies = λ d e.
          filter-append (λ l. in_lane d e (content l)) (letters_landed s.event (letters_flying merged)) (map (letter s.stamp) (sent_by [] (events merged) s.event))
          ∙ ap (λ z. z ++ new_posts [] s merged d e)
          (lands s.desk s.stamp (letters_flying merged) (λ d e. (backs d e).lead) (λ d e. (backs d e).rest) k.flies s.event next.home (λ d e. (backs d e).same) d e)
          ∙ sym (backs d e).left;
      order = (
        order_of s.desk s.stamp (letters_flying merged) (λ d e. (backs d e).lead) (λ d e. (backs d e).rest) k.flies s.event merged refl next.home (λ d e. (backs d e).same),
        k.order,
      );
      agreed = (record { over = before; agree = agreed; flies = k.flies }, k.agreed);
    }

  pub laid_out : (merged : List Stamped) (over : ℕ → ℕ → List Letter) → IsRising merged → AllLocal [] low top merged → LanesAgree [] (λ d. of_desk d merged) over → IsLaidOut merged over
  laid_out [] over r h a = record { flies = λ d e. a d e; order = tt; agreed = tt }
  laid_out (s ∷ merged) over r h a =
      more s merged over r h a (laid_out merged (before s merged over r h a) r.1 (tail s merged over r h a) (agreed s merged over r h a))
