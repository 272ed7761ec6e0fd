-- The accounts of a desk, over what it does.
use Rattle.std.proofs.Common.{◌≡◌, ◌≢◌, ℕ, ◌+◌, ◌<◌, ◌≤◌, ◌==◌, Bool, true, false, cond, List, [], ◌∷◌, ◌++◌, length, max, map, filter, take, drop, get_or, set, Option, Some, None, refl, sym, ap, ◌∙◌, subst, append_assoc, append-nil, ⊎_elim, arith}
use Rattle.std.specs.Prelude.{IfSome}
use Rattle.std.proofs.lemmas.Bool.{eqb-true, eq-eqb, ne_eqb, both_ways, cases_lt}
use Rattle.std.proofs.lemmas.List.{get_or_past, get_or-set_same, get_or-set_other, length-set, take-append-drop}
use Rattle.std.proofs.lemmas.List.Elements.{filter-append}
use Rattle.pt_signal.specs.declared.config.Config.{Config}
use Rattle.pt_signal.specs.declared.letter.Letter.{Letter}
use Rattle.pt_signal.specs.Process.{sent}
use Rattle.pt_events.specs.declared.event.Event.{Event}
use Rattle.pt_events.specs.History.{sent_by}
use Rattle.pt_events.specs.Journal.{letter, letters, posts, gots, Agrees}
use Rattle.pt_carrier.specs.Ends.{Place, OutEnds, InEnds, more_of, Collects, looking_from}
use Rattle.pt_carrier.specs.Meeting.{out_kept, in_kept}
use Rattle.pt_carrier.proofs.Meeting.{meets_still}
use Rattle.pt_shard.specs.ShardState.{ShardState, box, past, written, handled, came_event}
use Rattle.pt_shard.specs.Outbox.{sent_on_some, holding, held_from}
use Rattle.pt_shard.specs.Fit.{IsFit}
use Rattle.pt_desk.specs.DeskState.{IsAccounted}
use Rattle.pt_events.proofs.Agreeing.{Agrees-got, Agrees-posted}
use Rattle.pt_shard.proofs.Boxes.{put_at}

-- the accounts of a desk with the same ends, of which the number and the settings stay
pub accounted_by : (s s' : ShardState) (o : OutEnds) (i : InEnds) → IsAccounted s o i → s'.number ≡ s.number → s'.config ≡ s.config → ((e : ℕ) → e < s.config.desks → posts s'.start s'.journal e ≡ get_or o.posted e [] ++ box s' e)
    → ((d : ℕ) → d < s.config.desks → Agrees (get_or i.collected d []) (gots s'.journal d) (held_from d s'.hold)) → IsAccounted s' o i
accounted_by s s' o i acc number config posted collected =
    let desks : s'.config.desks ≡ s.config.desks = ap (λ (c : Config). c.desks) config in
    record {
      out_number = acc.out_number ∙ sym number;
      in_number = acc.in_number ∙ sym number;
      out_desks = acc.out_desks ∙ sym desks;
      in_desks = acc.in_desks ∙ sym desks;
      posted_desks = acc.posted_desks ∙ sym desks;
      collected_desks = acc.collected_desks ∙ sym desks;
      posted = λ e l. posted e (omega (arith, l, desks));
      collected = λ d l. collected d (omega (arith, l, desks));
      own = acc.own;
    }

-- what an event sends waits in the outbox
module _ (s : ShardState) (o : OutEnds) (i : InEnds) (boxes : length s.outbox ≡ s.config.desks) (acc : IsAccounted s o i) where
  pub posts_written : (n : ℕ) (event : Event) (e : ℕ) → e < s.config.desks → posts s.start (written n event s).journal e ≡ get_or o.posted e [] ++ get_or (written n event s).outbox e []
  posts_written n event e h =
      let more = map (letter n) (sent_by s.start (past s) event) in
      filter-append (λ l. l.to.shard == e) (letters s.start s.journal) more
      ∙ ap (λ z. z ++ filter (λ l. l.to.shard == e) more) (acc.posted e h)
      ∙ append_assoc (get_or o.posted e []) (get_or s.outbox e []) (filter (λ l. l.to.shard == e) more)
      ∙ ap (λ z. get_or o.posted e [] ++ z) (sym (put_at s.outbox more e (omega (arith, h, boxes))))

  -- the letter in the hold is handled
  module _ (l : Letter) (holds : s.hold ≡ Some l) where
    collected_handled : (d : ℕ) → d < s.config.desks → Agrees (get_or i.collected d []) (gots (handled l s).journal d) []
    collected_handled d h = go (l.from.shard == d) refl (subst (λ o. Agrees (get_or i.collected d []) (gots s.journal d) (held_from d o)) holds (acc.collected d h))
      where
        go : (b : Bool) → (l.from.shard == d) ≡ b → Agrees (get_or i.collected d []) (gots s.journal d) (cond (l.from.shard == d) (l ∷ []) [])
            → Agrees (get_or i.collected d []) (gots s.journal d ++ cond (l.from.shard == d) (letter (max s.clock l.stamp + 1) (sent l.from l.to l.signal) ∷ []) []) []
        go true q a =
            rw q (Agrees-got (get_or i.collected d []) (gots s.journal d) l (letter (max s.clock l.stamp + 1) (sent l.from l.to l.signal)) [] (refl, omega arith) (rw q at a))
        go false q a = rw (q, append-nil (gots s.journal d)) (rw q at a)

    pub accounted_handled : IsAccounted (holding None (handled l s)) o i
    accounted_handled =
        accounted_by s (holding None (handled l s)) o i acc refl refl (posts_written (max s.clock l.stamp + 1) (came_event l)) collected_handled

-- a letter is collected into the hold
module _ (s : ShardState) (o : OutEnds) (i : InEnds) (acc : IsAccounted s o i) where
  pub accounted_taken : (i' : InEnds) (l : Letter) → s.hold ≡ None → Collects i i' l.from.shard l → i'.place ≡ i.place → IsAccounted (holding (Some l) s) o i'
  accounted_taken i' l free takes place = record {
    out_number = acc.out_number;
    in_number = ap (λ p. p.number) place ∙ acc.in_number;
    out_desks = acc.out_desks;
    in_desks = ap (λ p. length p.rings) place ∙ acc.in_desks;
    posted_desks = acc.posted_desks;
    collected_desks = ap length takes.collected ∙ length-set i.collected l.from.shard (get_or i.collected l.from.shard [] ++ l ∷ []) ∙ acc.collected_desks;
    posted = acc.posted;
    collected = λ d h. go d h (l.from.shard == d) refl;
    own = meets_still o o i i' refl place acc.own;
  }
    where
      before : (d : ℕ) → d < s.config.desks → Agrees (get_or i.collected d []) (gots s.journal d) []
      before d h = subst (λ o. Agrees (get_or i.collected d []) (gots s.journal d) (held_from d o)) free (acc.collected d h)

      go : (d : ℕ) → d < s.config.desks → (b : Bool) → (l.from.shard == d) ≡ b → Agrees (get_or i'.collected d []) (gots s.journal d) (cond (l.from.shard == d) (l ∷ []) [])
      go d h true q =
          let is : l.from.shard ≡ d = eqb-true l.from.shard d q in
          let now : get_or i'.collected d [] ≡ get_or i.collected d [] ++ l ∷ [] =
          ap (λ z. get_or z d []) takes.collected ∙ ap (λ z. get_or (set i.collected z (get_or i.collected z [] ++ l ∷ [])) d []) is
          ∙ get_or-set_same i.collected d (get_or i.collected d [] ++ l ∷ []) [] (omega (arith, h, acc.collected_desks)) in
          rw q (subst (λ z. Agrees z (gots s.journal d) (l ∷ [])) (sym now) (Agrees-posted (get_or i.collected d []) (gots s.journal d) [] (l ∷ []) (before d h)))
      go d h false q =
          let same : get_or i'.collected d [] ≡ get_or i.collected d [] =
          ap (λ z. get_or z d []) takes.collected ∙ get_or-set_other i.collected l.from.shard d (get_or i.collected l.from.shard [] ++ l ∷ []) [] (λ r. both_ways (l.from.shard == d) q (eq-eqb l.from.shard d (sym r))) in
          rw q (subst (λ z. Agrees z (gots s.journal d) []) (sym same) (before d h))

-- so many of the oldest letters that wait for desk e are posted
pub accounted_posted : (s s' : ShardState) (o o' : OutEnds) (i : InEnds) (e count : ℕ) → e < s.config.desks → IsFit s → IsAccounted s o i
    → s' ≡ sent_on_some e count s → o'.posted ≡ more_of o.posted e (take count (get_or s.outbox e [])) → o'.place ≡ o.place → IsAccounted s' o' i
accounted_posted s s' o o' i e count e_in fit acc after more place =
    subst (λ z. IsAccounted z o' i) (sym after) (record {
      out_number = ap (λ p. p.number) place ∙ acc.out_number;
      in_number = acc.in_number;
      out_desks = ap (λ p. length p.rings) place ∙ acc.out_desks;
      in_desks = acc.in_desks;
      posted_desks = ap length more ∙ length-set o.posted e (get_or o.posted e [] ++ take count (get_or s.outbox e [])) ∙ acc.posted_desks;
      collected_desks = acc.collected_desks;
      posted = λ k h. go k h (k == e) refl;
      collected = acc.collected;
      own = meets_still o o' i i place refl acc.own;
    })
  where
    here : posts s.start s.journal e ≡ get_or o'.posted e [] ++ get_or (set s.outbox e (drop count (get_or s.outbox e []))) e []
    here =
        acc.posted e e_in
        ∙ ap (λ z. get_or o.posted e [] ++ z) (sym (take-append-drop count (get_or s.outbox e [])))
        ∙ sym (append_assoc (get_or o.posted e []) (take count (get_or s.outbox e [])) (drop count (get_or s.outbox e [])))
        ∙ ap (λ z. z ++ drop count (get_or s.outbox e [])) (sym (ap (λ z. get_or z e []) more ∙ get_or-set_same o.posted e (get_or o.posted e [] ++ take count (get_or s.outbox e [])) [] (omega (arith, e_in, acc.posted_desks))))
        ∙ ap (λ z. get_or o'.posted e [] ++ z) (sym (get_or-set_same s.outbox e (drop count (get_or s.outbox e [])) [] (omega (arith, e_in, fit.boxes))))

    go : (k : ℕ) → k < s.config.desks → (b : Bool) → (k == e) ≡ b → posts s.start s.journal k ≡ get_or o'.posted k [] ++ get_or (set s.outbox e (drop count (get_or s.outbox e []))) k []
    go k h true q = subst (λ k. posts s.start s.journal k ≡ get_or o'.posted k [] ++ get_or (set s.outbox e (drop count (get_or s.outbox e []))) k []) (sym (eqb-true k e q)) here
    go k h false q =
        let ne : k ≢ e = λ r. both_ways (k == e) q (eq-eqb k e r) in
        acc.posted k h
        ∙ ap (λ z. z ++ get_or s.outbox k []) (sym (ap (λ z. get_or z k []) more ∙ get_or-set_other o.posted e k (get_or o.posted e [] ++ take count (get_or s.outbox e [])) [] ne))
        ∙ ap (λ z. get_or o'.posted k [] ++ z) (sym (get_or-set_other s.outbox e k (drop count (get_or s.outbox e [])) [] ne))

-- the accounts for every number, those of no desk among them -----------------------------------

module _ (s : ShardState) (o : OutEnds) (i : InEnds) (fit : IsFit s) (acc : IsAccounted s o i) where
  pub posted_to_every : (e : ℕ) → posts s.start s.journal e ≡ get_or o.posted e [] ++ get_or s.outbox e []
  posted_to_every e = ⊎_elim (acc.posted e)
      (λ far. fit.posts_near e far ∙ sym (rw (get_or_past o.posted e [] (omega (arith, far, acc.posted_desks)), get_or_past s.outbox e [] (omega (arith, far, fit.boxes))) refl))
      (cases_lt e s.config.desks)

  held_far : (d : ℕ) (h : Option Letter) → s.config.desks ≤ d → IfSome h (λ l. (l.to.shard ≡ s.number) × (l.from.shard < s.config.desks)) → held_from d h ≡ []
  held_far d None far h = refl
  held_far d (Some l) far h = rw (ne_eqb l.from.shard d (λ r. omega (arith, r, far, h.1))) refl

  pub collected_from_every : (d : ℕ) → Agrees (get_or i.collected d []) (gots s.journal d) (held_from d s.hold)
  collected_from_every d = ⊎_elim (acc.collected d)
      (λ far. rw (get_or_past i.collected d [] (omega (arith, far, acc.collected_desks)), fit.gots_near d far, held_far d s.hold far fit.held) refl)
      (cases_lt d s.config.desks)

-- ends that looked at each other keep the accounts
pub accounted_met : (s : ShardState) (o o' : OutEnds) (i i' : InEnds) → IsAccounted s o i → out_kept o' ≡ out_kept o → in_kept i' ≡ in_kept i → IsAccounted s o' i'
accounted_met s o o' i i' acc p q = record {
  out_number = ap (λ (k : Place × List (List Letter) × List ℕ). k.0.number) p ∙ acc.out_number;
  in_number = ap (λ (k : Place × ℕ × List (List Letter)). k.0.number) q ∙ acc.in_number;
  out_desks = ap (λ (k : Place × List (List Letter) × List ℕ). length k.0.rings) p ∙ acc.out_desks;
  in_desks = ap (λ (k : Place × ℕ × List (List Letter)). length k.0.rings) q ∙ acc.in_desks;
  posted_desks = ap (λ (k : Place × List (List Letter) × List ℕ). length k.1) p ∙ acc.posted_desks;
  collected_desks = ap (λ (k : Place × ℕ × List (List Letter)). length k.2) q ∙ acc.collected_desks;
  posted = λ e l. acc.posted e l ∙ ap (λ (k : Place × List (List Letter) × List ℕ). get_or k.1 e [] ++ box s e) (sym p);
  collected = λ d l. subst (λ (k : Place × ℕ × List (List Letter)). Agrees (get_or k.2 d []) (gots s.journal d) (held_from d s.hold)) (sym q) (acc.collected d l);
  own = meets_still o o' i i' (ap (λ (k : Place × List (List Letter) × List ℕ). k.0) p) (ap (λ (k : Place × ℕ × List (List Letter)). k.0) q) acc.own;
}

-- another lane is looked at first
pub accounted_looking : (s : ShardState) (o : OutEnds) (i : InEnds) (k : ℕ) → IsAccounted s o i → IsAccounted s o (looking_from k i)
accounted_looking s o i k acc =
    record { out_number = acc.out_number; in_number = acc.in_number; out_desks = acc.out_desks; in_desks = acc.in_desks; posted_desks = acc.posted_desks; collected_desks = acc.collected_desks; posted = acc.posted; collected = acc.collected; own = meets_still o o i (looking_from k i) refl refl acc.own }
