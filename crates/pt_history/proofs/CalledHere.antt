-- What the calls of each desk do by its own journal, they do in the whole history.
use Rattle.std.proofs.Common.{◌≡◌, ℕ, zero, suc, ◌+◌, ◌<◌, ◌≤◌, ◌==◌, max, nat_lt, Bool, true, false, cond, ◌||◌, ◌⊎◌, inl, inr, Option, Some, None, List, [], ◌∷◌, ◌++◌, length, map, filter, drop, refl, sym, ap, ◌∙◌, subst, append_assoc, append-nil, arith}
use Rattle.std.specs.Prelude.{slice_get, reverse, ⊤}
use Rattle.std.proofs.lemmas.Bool.{eq-eqb, eqb-false, ne_eqb, ltb-true}
use Rattle.std.proofs.lemmas.List.Elements.{filter-append}
use Rattle.pt_signal.specs.declared.pid.Pid.{Pid}
use Rattle.pt_signal.specs.declared.letter.Letter.{Letter}
use Rattle.pt_signal.specs.Process.{Sent}
use Rattle.pt_events.specs.declared.event.Event.{Event}
use Rattle.pt_events.specs.declared.event.Event.TheVariants.{Born, Said, Came, Took, Flag, Left, Refused}
use Rattle.pt_events.specs.declared.event.Stamped.{Stamped}
use Rattle.pt_events.specs.History.{is_ended, sent_by}
use Rattle.pt_events.specs.Journal.{Journals, IsHome, IsLocal, IsMerge, Agrees, events, clock, letter, letters, of_desk, posts, gots}
use Rattle.pt_events.specs.Locality.{AllHome}
use Rattle.pt_events.specs.Refusals.{stamped_below}
use Rattle.pt_events.proofs.Homes.{life_home}
use Rattle.pt_events.proofs.Telling.{AllLocal, head_local, tail_local, all_home}
use Rattle.pt_auditor.specs.declared.foreign.Foreign.{Foreign}
use Rattle.pt_auditor.specs.Lanes.{lane, letters_flying, clock_of}
use Rattle.pt_auditor.specs.Seen.{has_seen, shows_end}
use Rattle.pt_auditor.specs.Foreigners.{GoesToNoEnded, GoesToNoneSeen, IsStillBelow, MayBegin, IsInTime, IsOrigin}
use Rattle.pt_history.specs.Passing.{IsToldByCalls, AllToldByCalls, IsInTimeHere, IsCalledHere, AllCalledHere, AreOfOneNode, left_in_turn}
use Rattle.pt_history.proofs.Flying.{AllAgreed, IsAgreedAt, laid_out}
use Rattle.pt_history.proofs.Passing.{passes, locals, agree}

-- which exits a desk has seen, its own events tell
seen_home : (d : ℕ) (p : Pid) (merged : List Stamped) → AllHome merged → has_seen (events (of_desk d merged)) d p ≡ has_seen (events merged) d p
seen_home d p [] h = refl
seen_home d p (s ∷ merged) h = go (s.desk == d) refl (seen_home d p merged h.1)
  where
    other : (e : Event) → IsHome s.desk e → (s.desk == d) ≡ false → shows_end d p e ≡ false
    other (Refused a b) home q =
        let apart : (d == a.shard) ≡ false = ne_eqb d a.shard (λ r. eqb-false s.desk d q (sym home ∙ sym r)) in
        rw apart refl
    other (Born c parent link) home q = refl
    other (Said a b x) home q = refl
    other (Came a b x) home q = refl
    other (Took c k i) home q = refl
    other (Flag c on) home q = refl
    other (Left c r) home q = refl

    go : (t : Bool) → (s.desk == d) ≡ t → has_seen (events (of_desk d merged)) d p ≡ has_seen (events merged) d p
        → has_seen (events (of_desk d (s ∷ merged))) d p ≡ has_seen (events (s ∷ merged)) d p
    go true q ih = rw q (ap (λ z. shows_end d p s.event || z) ih)
    go false q ih = rw (q, other s.event h.0 q) ih

-- stamps are above the beginning ------------------------------------------------------------------

abbrev AllAbove : ℕ → List Stamped → Type 0
AllAbove low [] = ⊤
AllAbove low (s ∷ past) = (low < s.stamp) × AllAbove low past

abbrev LettersAbove : ℕ → List Letter → Type 0
LettersAbove low [] = ⊤
LettersAbove low (l ∷ ls) = (low < l.stamp) × LettersAbove low ls

module _ (low top : ℕ) where
  clock_from : (d : ℕ) (journal : List Stamped) → IsLocal [] low top d journal → low ≤ clock low journal
  clock_from d [] l = omega arith
  clock_from d (s ∷ journal) l = let k = clock_from d journal l.1 in omega (arith, l.0.later)

  all_above : (merged : List Stamped) → AllLocal [] low top merged → AllAbove low merged
  all_above [] l = tt
  all_above (s ∷ merged) l =
      let next = head_local [] low top s merged l in
      let rest = tail_local [] low top s merged l in
      let k = clock_from s.desk (of_desk s.desk merged) (rest s.desk) in
      (omega (arith, next.later), all_above merged rest)

  above_append : (xs ys : List Letter) → LettersAbove low xs → LettersAbove low ys → LettersAbove low (xs ++ ys)
  above_append [] ys h k = k
  above_append (x ∷ xs) ys h k = (h.0, above_append xs ys h.1 k)

  above_sent : (n : ℕ) (xs : List Sent) → low < n → LettersAbove low (map (letter n) xs)
  above_sent n [] h = tt
  above_sent n (x ∷ xs) h = (h, above_sent n xs h)

  above_filter : (P : Letter → Bool) (xs : List Letter) → LettersAbove low xs → LettersAbove low (filter P xs)
  above_filter P [] h = tt
  above_filter P (x ∷ xs) h = go (P x) (above_filter P xs h.1)
    where
      go : (b : Bool) → LettersAbove low (filter P xs) → LettersAbove low (cond b (x ∷ filter P xs) (filter P xs))
      go true k = (h.0, k)
      go false k = k

  letters_above : (d : ℕ) (journal : List Stamped) → IsLocal [] low top d journal → LettersAbove low (letters [] journal)
  letters_above d [] l = tt
  letters_above d (s ∷ journal) l =
      let k = clock_from d journal l.1 in
      above_append (letters [] journal) (map (letter s.stamp) (sent_by [] (events journal) s.event)) (letters_above d journal l.1)
      (above_sent s.stamp (sent_by [] (events journal) s.event) (omega (arith, l.0.later)))

  above_at : (xs : List Letter) (k : ℕ) (l : Letter) → LettersAbove low xs → slice_get xs k ≡ Some l → low < l.stamp
  above_at [] k l h g = absurd (cc)
  above_at (x ∷ xs) zero l h g = let is : x ≡ l = cc in subst (λ (z : Letter). low < z.stamp) is h.0
  above_at (x ∷ xs) (suc k) l h g = above_at xs k l h.1 g

-- no event has a stamp below the first that can be given
none_below : (low n : ℕ) → n ≤ low + 1 → (past : List Stamped) → AllAbove low past → stamped_below n past ≡ []
none_below low n most [] h = refl
none_below low n most (s ∷ past) h = go (nat_lt s.stamp n) refl (none_below low n most past h.1)
  where
    go : (b : Bool) → nat_lt s.stamp n ≡ b → stamped_below n past ≡ [] → cond (nat_lt s.stamp n) (s ∷ stamped_below n past) (stamped_below n past) ≡ []
    go true q ih = absurd (omega (arith, ltb-true s.stamp n q, h.0, most))
    go false q ih = rw q ih

may_begin : (low n : ℕ) (past : List Stamped) → n ≡ low + 1 → AllAbove low past → MayBegin past n
may_begin low n past is h =
    subst (λ (z : List Stamped). IsStillBelow z n) (sym (none_below low n (omega (arith, is)) past h)) (record { still = refl; next = tt })

-- the letter that came --------------------------------------------------------------------------------

-- what is left over are the posts behind those that came
over_is : (posted got over : List Letter) → Agrees posted got over → over ≡ drop (length got) posted
over_is posted [] over h = sym h
over_is [] (g ∷ got) over h = absurd h
over_is (l ∷ posted) (g ∷ got) over h = over_is posted got over h.1

first_of_drop : (k : ℕ) (xs : List Letter) → slice_get (drop k xs) 0 ≡ slice_get xs k
first_of_drop zero xs = refl
first_of_drop (suc k) [] = refl
first_of_drop (suc k) (x ∷ xs) = first_of_drop k xs

get_longer : (xs ys : List Letter) (k : ℕ) (l : Letter) → slice_get xs k ≡ Some l → slice_get (xs ++ ys) k ≡ Some l
get_longer [] ys k l h = absurd (cc)
get_longer (x ∷ xs) ys zero l h = h
get_longer (x ∷ xs) ys (suc k) l h = get_longer xs ys k l h

-- what was posted until then, and what was posted later
abbrev Later : Journals → List Stamped → Type 0
Later journal merged = (d e : ℕ) → (more : List Letter) × (posts [] (journal d) e ≡ posts [] (of_desk d merged) e ++ more)

later_tail : (journal : Journals) (s : Stamped) (merged : List Stamped) → Later journal (s ∷ merged) → Later journal merged
later_tail journal s merged h d e = go (s.desk == d) refl
  where
    new : List Letter
    new = filter (λ l. l.to.shard == e) (map (letter s.stamp) (sent_by [] (events (of_desk d merged)) s.event))

    go : (b : Bool) → (s.desk == d) ≡ b → (more : List Letter) × (posts [] (journal d) e ≡ posts [] (of_desk d merged) e ++ more)
    go true q =
        let k = h d e in
        let at : posts [] (of_desk d (s ∷ merged)) e ≡ posts [] (s ∷ of_desk d merged) e = rw q refl in
        let apart : posts [] (s ∷ of_desk d merged) e ≡ posts [] (of_desk d merged) e ++ new = filter-append (λ l. l.to.shard == e) (letters [] (of_desk d merged)) (map (letter s.stamp) (sent_by [] (events (of_desk d merged)) s.event)) in
        (new ++ k.0, k.1 ∙ ap (λ z. z ++ k.0) (at ∙ apart) ∙ append_assoc (posts [] (of_desk d merged) e) new k.0)
    go false q =
        let k = h d e in
        let at : posts [] (of_desk d (s ∷ merged)) e ≡ posts [] (of_desk d merged) e = rw q refl in
        (k.0, k.1 ∙ ap (λ z. z ++ k.0) at)

-- one event -------------------------------------------------------------------------------------------

module _ (low top : ℕ) (journal : Journals) (s : Stamped) (past : List Stamped) (l : AllLocal [] low top past) (agreed : IsAgreedAt past) (later : Later journal past) where
  here : List Stamped
  here = of_desk s.desk past

  alive_of : (e : Event) → GoesToNoEnded (events (of_desk s.desk past)) s.desk e → GoesToNoEnded (events past) s.desk e
  alive_of (Said a b x) h = λ r at. sym (ap is_ended (life_home [] b s.desk past at (all_home [] low top past l))) ∙ h r at
  alive_of (Born p parent link) h = tt
  alive_of (Came a b x) h = tt
  alive_of (Took p k i) h = tt
  alive_of (Flag p on) h = tt
  alive_of (Left p r) h = tt
  alive_of (Refused a b) h = tt

  unseen_of : (e : Event) → GoesToNoneSeen (events (of_desk s.desk past)) s.desk e → GoesToNoneSeen (events past) s.desk e
  unseen_of (Said a b x) h = λ r. sym (seen_home s.desk b past (all_home [] low top past l)) ∙ h r
  unseen_of (Born p parent link) h = tt
  unseen_of (Came a b x) h = tt
  unseen_of (Took p k i) h = tt
  unseen_of (Flag p on) h = tt
  unseen_of (Left p r) h = tt
  unseen_of (Refused a b) h = tt

  own_of : (j : List Stamped) → j ≡ of_desk s.desk past → s.stamp ≡ clock low j + 1 → (s.stamp ≡ clock 0 j + 1) ⊎ MayBegin past s.stamp
  own_of [] is h = inr (may_begin low s.stamp past h (all_above low top past l))
  own_of (t ∷ j) is h = inl h

  greater : (j : List Stamped) (n : ℕ) → low < n → max (clock low j) n ≡ max (clock 0 j) n
  greater [] n h = omega (arith, h)
  greater (t ∷ j) n h = refl

  came_of : (a b : Pid) → b.shard ≡ s.desk
      → ((m : Letter) → slice_get (posts [] (journal a.shard) s.desk) (length (gots (of_desk s.desk past) a.shard)) ≡ Some m → s.stamp ≡ max (clock low (of_desk s.desk past)) m.stamp + 1)
      → (m : Letter) → slice_get (lane a.shard b.shard (letters_flying past)) 0 ≡ Some m → s.stamp ≡ max (clock_of s.desk past) m.stamp + 1
  came_of a b at h m first =
      let posted = posts [] (of_desk a.shard past) s.desk in
      let got = gots (of_desk s.desk past) a.shard in
      let left : lane a.shard b.shard (letters_flying past) ≡ drop (length got) posted = ap (λ z. lane a.shard z (letters_flying past)) at ∙ agreed.flies a.shard s.desk ∙ over_is posted got (agreed.over a.shard s.desk) (agreed.agree a.shard s.desk) in
      let there : slice_get posted (length got) ≡ Some m = sym (first_of_drop (length got) posted) ∙ sym (ap (λ z. slice_get z 0) left) ∙ first in
      let more = later a.shard s.desk in
      let whole : slice_get (posts [] (journal a.shard) s.desk) (length got) ≡ Some m = ap (λ z. slice_get z (length got)) more.1 ∙ get_longer posted more.0 (length got) m there in
      let above : low < m.stamp = above_at low top posted (length got) m (above_filter low top (λ x. x.to.shard == s.desk) (letters [] (of_desk a.shard past)) (letters_above low top a.shard (of_desk a.shard past) (l a.shard))) there in
      h m whole ∙ ap (λ z. z + 1) (greater (of_desk s.desk past) m.stamp above)

  time_of : (e : Event) → IsHome s.desk e → IsInTimeHere low s.desk journal (of_desk s.desk past) s.stamp e → IsInTime past s.desk s.stamp e
  time_of (Came a b x) home h = came_of a b home h
  time_of (Refused a b) home h = tt
  time_of (Born p parent link) home h = own_of (of_desk s.desk past) refl h
  time_of (Said a b x) home h = own_of (of_desk s.desk past) refl h
  time_of (Took p k i) home h = own_of (of_desk s.desk past) refl h
  time_of (Flag p on) home h = own_of (of_desk s.desk past) refl h
  time_of (Left p r) home h = own_of (of_desk s.desk past) refl h

  told_one : IsHome s.desk s.event → IsCalledHere low s.desk journal (of_desk s.desk past) s → IsToldByCalls past s
  told_one home h = record {
    slot = h.slot;
    version = h.version;
    alive = alive_of s.event h.alive;
    unseen = unseen_of s.event h.unseen;
    time = time_of s.event home h.time;
  }

-- all events ------------------------------------------------------------------------------------------

called_head : (low : ℕ) (journal : Journals) (s : Stamped) (merged : List Stamped) → ((d : ℕ) → AllCalledHere low d journal (of_desk d (s ∷ merged))) → IsCalledHere low s.desk journal (of_desk s.desk merged) s
called_head low journal s merged h =
    (subst (λ c. AllCalledHere low s.desk journal (cond c (s ∷ of_desk s.desk merged) (of_desk s.desk merged))) (eq-eqb s.desk s.desk refl) (h s.desk)).0

called_tail : (low : ℕ) (journal : Journals) (s : Stamped) (merged : List Stamped) → ((d : ℕ) → AllCalledHere low d journal (of_desk d (s ∷ merged))) → (d : ℕ) → AllCalledHere low d journal (of_desk d merged)
called_tail low journal s merged h d = go (s.desk == d) (h d)
  where
    go : (b : Bool) → AllCalledHere low d journal (cond b (s ∷ of_desk d merged) (of_desk d merged)) → AllCalledHere low d journal (of_desk d merged)
    go true k = k.1
    go false k = k

told_by_calls : (low top : ℕ) (journal : Journals) (merged : List Stamped) → AllLocal [] low top merged → AllAgreed merged → Later journal merged → ((d : ℕ) → AllCalledHere low d journal (of_desk d merged)) → AllToldByCalls merged
told_by_calls low top journal [] l a k h = tt
told_by_calls low top journal (s ∷ merged) l a k h =
    let rest = tail_local [] low top s merged l in
    let behind = later_tail journal s merged k in (
      told_one low top journal s merged rest a.0 behind (head_local [] low top s merged l).home (called_head low journal s merged h),
      told_by_calls low top journal merged rest a.1 behind (called_tail low journal s merged h),
    )

module _ (low top count : ℕ) (journal : Journals) (over : ℕ → ℕ → List Letter) (merged : List Stamped) (node : AreOfOneNode low top count journal over) (m : IsMerge journal merged) where
  first_later : Later journal merged
  first_later d e = ([], sym (ap (λ z. posts [] z e) (m.1 d)) ∙ sym (append-nil (posts [] (of_desk d merged) e)))

  pub calls_pass : ((d : ℕ) → AllCalledHere low d journal (journal d)) → (o : Option Foreign) → IsOrigin merged (reverse (left_in_turn over count)) o → o ≡ None
  calls_pass h =
      let l = locals low top count journal over merged node m in
      let a = (laid_out low top merged over m.0 l (agree low top count journal over merged node m)).agreed in
      (passes low top count journal over merged node m).of_node
      (told_by_calls low top journal merged l a first_later (λ d. subst (AllCalledHere low d journal) (sym (m.1 d)) (h d)))
