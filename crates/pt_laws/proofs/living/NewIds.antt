-- Ids and references are numbered by stamps, so those of later journals are new.
use Rattle.std.proofs.Common.{◌≡◌, ℕ, ◌+◌, ◌≤◌, ◌<◌, ◌==◌, Bool, true, false, cond, List, [], ◌∷◌, ◌++◌, Option, Some, None, refl, sym, ap, subst, arith}
use Rattle.std.proofs.lemmas.Bool.{or_parts, eq-eqb, eqb-true}
use Rattle.pt_signal.specs.declared.ids.Ref.{Ref}
use Rattle.pt_signal.specs.declared.ids.LinkId.{LinkId}
use Rattle.pt_signal.specs.declared.signal.Signal.TheVariants.{Link, Monitor, AliveAsk}
use Rattle.pt_signal.specs.Values.{same_link, same_ref}
use Rattle.pt_events.specs.declared.event.Event.{Event}
use Rattle.pt_events.specs.declared.event.Event.TheVariants.{Born, Said}
use Rattle.pt_events.specs.declared.event.Stamped.{Stamped}
use Rattle.pt_events.specs.History.{Past, Start, state, state_of, is_this, makes_link, makes_ref, made_link, made_ref}
use Rattle.pt_events.specs.Journal.{Journals, IsLocal, IsMerge, IsNewAt, IsLinkAt, IsNext, clock, events, of_desk}
use Rattle.pt_laws.specs.Load.{IsStart}
use Rattle.pt_events.specs.Counting.{count}
use Rattle.pt_laws.specs.Watch.{is_monitor, said_times}
use Rattle.pt_laws.specs.Resumed.{start_after, IsNewTo, IsNewLink, AllNewTo, MadeUpTo}
use Rattle.pt_events.specs.OldRefs.{HasOldRefs}
use Rattle.pt_signal.proofs.Same.{same_link_is, same_ref_is}
use Rattle.pt_laws.proofs.living.Acts.{local_acts}
use Rattle.pt_laws.proofs.monitoring.Downs.{opens, count_law}
use Rattle.pt_events.proofs.Orders.{clock_above}
use Rattle.pt_laws.proofs.monitoring.MadeOnce.{made_once_local, said_under}
use Rattle.pt_events.proofs.Telling.{AllLocal, head_local, tail_local}
use Rattle.pt_laws.proofs.living.StartAfter.{opened}
use Rattle.pt_events.proofs.Telling.{says}

-- the number of what an event makes is its stamp ----------------------------------------

not_link : (d n : ℕ) (i : LinkId) (e : Event) → IsNewAt d n e → n < i.number → makes_link i e ≡ false
not_link d n i e h l = go e h
  where
    differs : (j : LinkId) → (j.desk ≡ d) × (j.number ≡ n) → (c : Bool) → same_link i j ≡ c → same_link i j ≡ false
    differs j k false g = g
    differs j k true g = let p = ap (λ z. z.number) (same_link_is i j g) in let q = k.1 in absurd (omega arith)

    maybe : (link : Option LinkId) → IsLinkAt d n link → is_this i link ≡ false
    maybe None k = refl
    maybe (Some j) k = differs j k _ refl

    go : (e : Event) → IsNewAt d n e → makes_link i e ≡ false
    go (Born q parent link) k = maybe link k
    go (Said a c (Link j)) k = differs j k _ refl
    go _ k = refl

not_ref : (d n : ℕ) (m : Ref) (e : Event) → IsNewAt d n e → n < m.number → makes_ref m e ≡ false
not_ref d n m e h l = go e h
  where
    differs : (j : Ref) → (j.desk ≡ d) × (j.number ≡ n) → (c : Bool) → same_ref m j ≡ c → same_ref m j ≡ false
    differs j k false g = g
    differs j k true g = let p = ap (λ z. z.number) (same_ref_is m j g) in let q = k.1 in absurd (omega arith)

    go : (e : Event) → IsNewAt d n e → makes_ref m e ≡ false
    go (Said a c (Monitor j)) k = differs j k _ refl
    go (Said a c (AliveAsk j)) k = differs j k _ refl
    go _ k = refl

-- what is above the old numbers is new
is_new : (d n low : ℕ) (old : Past) (e : Event) → MadeUpTo low old → IsNewAt d n e → low < n → IsNewTo old e
is_new d n low old e u h l = go e h
  where
    maybe : (link : Option LinkId) → IsLinkAt d n link → IsNewLink old link
    maybe None k = tt
    maybe (Some i) k = let q = k.1 in u.0 i (omega arith)

    go : (e : Event) → IsNewAt d n e → IsNewTo old e
    go (Born q parent link) k = maybe link k
    go (Said a c (Link i)) k = let q = k.1 in u.0 i (omega arith)
    go (Said a c (Monitor m)) k = let q = k.1 in u.1 m (omega arith)
    go (Said a c (AliveAsk m)) k = let q = k.1 in u.1 m (omega arith)
    go _ k = tt

-- merges ---------------------------------------------------------------------------------

module _ (start : Start) (low top : ℕ) where
  -- the clocks of a merge's desks without its newest event
  clocks_tail : (n : ℕ) (s : Stamped) (merged : List Stamped) → AllLocal start low top (s ∷ merged) → ((d : ℕ) → clock low (of_desk d (s ∷ merged)) ≤ n) → (s.stamp ≤ n) × ((d : ℕ) → clock low (of_desk d merged) ≤ n)
  clocks_tail n s merged h up = (newest, λ d. go d (s.desk == d) refl (up d))
    where
      newest : s.stamp ≤ n
      newest = subst (λ c. clock low (cond c (s ∷ of_desk s.desk merged) (of_desk s.desk merged)) ≤ n) (eq-eqb s.desk s.desk refl) (up s.desk)

      go : (d : ℕ) (b : Bool) → (s.desk == d) ≡ b → clock low (of_desk d (s ∷ merged)) ≤ n → clock low (of_desk d merged) ≤ n
      go d true e k =
          let l = (head_local start low top s merged h).later in
          let z : clock low (of_desk d merged) ≡ clock low (of_desk s.desk merged) = ap (λ d. clock low (of_desk d merged)) (sym (eqb-true s.desk d e)) in
          let w = newest in
          omega arith
      go d false e k = subst (λ c. clock low (cond c (s ∷ of_desk d merged) (of_desk d merged)) ≤ n) e k

  up_to : (n : ℕ) (merged : List Stamped) → AllLocal start low top merged → ((d : ℕ) → clock low (of_desk d merged) ≤ n) → MadeUpTo n (events merged)
  up_to n [] h up = (λ i l. refl, λ m l. refl)
  up_to n (s ∷ merged) h up =
      let c = clocks_tail n s merged h up in
      let ih = up_to n merged (tail_local start low top s merged h) c.1 in
      let k = c.0 in
      let new = (head_local start low top s merged h).new_at in
      (λ i l. rw (not_link s.desk s.stamp i s.event new (omega arith), ih.0 i l) refl, λ m l. rw (not_ref s.desk s.stamp m s.event new (omega arith), ih.1 m l) refl)

  all_new : (old : Past) → MadeUpTo low old → (merged : List Stamped) → AllLocal start low top merged → AllNewTo old (events merged)
  all_new old u [] h = tt
  all_new old u (s ∷ merged) h = (is_new s.desk s.stamp low old s.event u here.new_at above, all_new old u merged (tail_local start low top s merged h))
    where
      here : IsNext start low top s.desk (of_desk s.desk merged) s
      here = head_local start low top s merged h

      above : low < s.stamp
      above = let c = clock_above start low top s.desk (of_desk s.desk merged) (tail_local start low top s merged h s.desk) in let l = here.later in omega arith

pub both_number : (n : ℕ) (one two : Past) → MadeUpTo n one → MadeUpTo n two → MadeUpTo n (two ++ one)
both_number n one two h k = (λ i l. links two i (k.0 i l) (h.0 i l), λ m l. refs two m (k.1 m l) (h.1 m l))
  where
    links : (two : Past) (i : LinkId) → made_link two i ≡ false → made_link one i ≡ false → made_link (two ++ one) i ≡ false
    links [] i k h = h
    links (e ∷ two) i k h = let q = or_parts (makes_link i e) (made_link two i) k in rw (q.0, links two i q.1 h) refl

    refs : (two : Past) (m : Ref) → made_ref two m ≡ false → made_ref one m ≡ false → made_ref (two ++ one) m ≡ false
    refs [] m k h = h
    refs (e ∷ two) m k h = let q = or_parts (makes_ref m e) (made_ref two m) k in rw (q.0, refs two m q.1 h) refl

merged_local : (start : Start) (low top : ℕ) (journal : Journals) (merged : List Stamped) → ((d : ℕ) → IsLocal start low top d (journal d)) → IsMerge journal merged → AllLocal start low top merged
merged_local start low top journal merged local m d = subst (IsLocal start low top d) (sym (m.1 d)) (local d)

pub stamps_number : (start : Start) (low top n : ℕ) (journal : Journals) (merged : List Stamped) → ((d : ℕ) → IsLocal start low top d (journal d)) → IsMerge journal merged
    → ((d : ℕ) → clock low (journal d) ≤ n) → MadeUpTo n (events merged)
stamps_number start low top n journal merged local m up = up_to start low top n merged (merged_local start low top journal merged local m) (λ d. subst (λ j. clock low j ≤ n) (sym (m.1 d)) (up d))

pub stamps_are_new : (start : Start) (low top : ℕ) (journal : Journals) (merged : List Stamped) (old : Past) → MadeUpTo low old → ((d : ℕ) → IsLocal start low top d (journal d))
    → IsMerge journal merged → AllNewTo old (events merged)
stamps_are_new start low top journal merged old u local m = all_new start low top old u merged (merged_local start low top journal merged local m)

-- the monitors open at the end ----------------------------------------------------------------

pub old_refs : (start : Start) (low top n : ℕ) (journal : Journals) (merged : List Stamped) → IsStart start → HasOldRefs low start → ((d : ℕ) → IsLocal start low top d (journal d))
    → IsMerge journal merged → ((d : ℕ) → clock low (journal d) ≤ n) → HasOldRefs n (start_after start (events merged))
old_refs start low top n journal merged ok old local m up w k = (few, none)
  where
    own : List Stamped
    own = journal w.shard

    -- as the journal of w's desk has it
    there : opens k (state (start_after start (events merged)) [] w).watching ≤ opens k (state start (events (journal w.shard)) w).watching
    there =
        subst (λ f. opens k (state (start_after start (events merged)) [] w).watching ≤ opens k (state_of f).watching) (sym (says start low top journal merged w local m).0)
        (opened start ok (events merged) w k)

    law : opens k (state start (events (journal w.shard)) w).watching ≤ opens k (state start [] w).watching + said_times w (is_monitor k) (events (journal w.shard))
    law = let c = count_law start k w (events (journal w.shard)) (local_acts start low top w.shard (journal w.shard) (local w.shard)) in omega arith

    few : count (λ e. same_ref k e.0) (state (start_after start (events merged)) [] w).watching ≤ 1
    few = let a = there in let b = law in let o = made_once_local start low top w.shard (journal w.shard) w k old (local w.shard) in omega arith

    none : n < k.number → count (λ e. same_ref k e.0) (state (start_after start (events merged)) [] w).watching ≡ 0
    none l =
        let u = up w.shard in
        let c = clock_above start low top w.shard (journal w.shard) (local w.shard) in
        let z = (old w k).1 (omega arith) in
        let s = said_under w k start low top w.shard (journal w.shard) (local w.shard) (omega arith) in
        let a = there in let b = law in
        omega arith
