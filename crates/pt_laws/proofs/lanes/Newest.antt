-- What the newest event of a merge adds to its lanes.
use Rattle.std.proofs.Common.{◌≡◌, ℕ, ◌≤◌, Bool, true, false, cond, ◌==◌, List, [], ◌∷◌, ◌++◌, map, filter, refl, sym, ap, ◌∙◌, subst, append-nil, ⊎_elim, arith}
use Rattle.std.proofs.lemmas.List.Elements.{filter-append}
use Rattle.std.proofs.lemmas.Bool.{eq-eqb, eqb-true}
use Rattle.pt_signal.specs.declared.letter.Letter.{Letter}
use Rattle.pt_signal.specs.Process.{Sent, sent}
use Rattle.pt_events.specs.declared.event.Event.{Event}
use Rattle.pt_events.specs.declared.event.Event.TheVariants.{Came}
use Rattle.pt_events.specs.declared.event.Stamped.{Stamped}
use Rattle.pt_events.specs.History.{Start, sent_by}
use Rattle.pt_events.specs.Journal.{events, of_desk, letter, content, IsHome, letters, posts, got, got_of, gots, IsAfter, AllBefore}
use Rattle.pt_events.proofs.Local.{AllHome}
use Rattle.pt_events.proofs.Homes.{AllFrom, from_home, in_lane, sent_home}
use Rattle.pt_laws.proofs.lanes.Lanes.{AllUpTo, AllUpTo-append}

-- the letters of the newest event in one lane
abbrev pub new_posts : Start → Stamped → List Stamped → ℕ → ℕ → List Letter
new_posts start s merged d e = filter (λ l. in_lane d e (content l)) (map (letter s.stamp) (sent_by start (events merged) s.event))

abbrev pub new_gots : Stamped → ℕ → ℕ → List Letter
new_gots s d e = cond (s.desk == e) (got d s) []

pub gots_step : (s : Stamped) (merged : List Stamped) (d e : ℕ) → gots (of_desk e (s ∷ merged)) d ≡ gots (of_desk e merged) d ++ new_gots s d e
gots_step s merged d e = go (s.desk == e) refl
  where
    go : (b : Bool) → (s.desk == e) ≡ b → gots (of_desk e (s ∷ merged)) d ≡ gots (of_desk e merged) d ++ new_gots s d e
    go true f = rw (f, gots) refl
    go false f = rw (f, gots) (sym (append-nil _))

lane_letters : (d e n : ℕ) (ls : List Sent) → AllFrom d ls → filter (λ l. l.to.shard == e) (map (letter n) ls) ≡ filter (λ l. in_lane d e (content l)) (map (letter n) ls)
lane_letters d e n [] h = refl
lane_letters d e n (l ∷ ls) h = rw (eq-eqb l.from.shard d h.0, lane_letters d e n ls h.1) refl

no_letters : (d e c n : ℕ) (ls : List Sent) → (c == d) ≡ false → AllFrom c ls → filter (λ l. in_lane d e (content l)) (map (letter n) ls) ≡ []
no_letters d e c n [] f h = refl
no_letters d e c n (l ∷ ls) f h = let k : (l.from.shard == d) ≡ false = rw h.0 f in rw (k, no_letters d e c n ls f h.1) refl

pub posts_step : (start : Start) (s : Stamped) (merged : List Stamped) (d e : ℕ) → IsHome s.desk s.event → AllHome merged
    → posts start (of_desk d (s ∷ merged)) e ≡ posts start (of_desk d merged) e ++ new_posts start s merged d e
posts_step start s merged d e i k = go (s.desk == d) refl
  where
    X : List Sent
    X = sent_by start (events merged) s.event

    go : (b : Bool) → (s.desk == d) ≡ b → posts start (of_desk d (s ∷ merged)) e ≡ posts start (of_desk d merged) e ++ new_posts start s merged d e
    go true f =
        let same : s.desk ≡ d = eqb-true _ _ f in
        let home : IsHome d s.event = subst (λ d. IsHome d s.event) same i in
        subst (λ c. posts start (cond c (s ∷ of_desk d merged) (of_desk d merged)) e ≡ posts start (of_desk d merged) e ++ new_posts start s merged d e) (sym f)
        (filter-append (λ l. l.to.shard == e) (letters start (of_desk d merged)) (map (letter s.stamp) (sent_by start (events (of_desk d merged)) s.event))
        ∙ ap (λ z. posts start (of_desk d merged) e ++ z)
        (ap (λ z. filter (λ l. l.to.shard == e) (map (letter s.stamp) z)) (sent_home start d merged s.event home k)
        ∙ lane_letters d e s.stamp (sent_by start (events merged) s.event) (from_home start (events merged) d s.event home)))
    go false f =
        subst (λ c. posts start (cond c (s ∷ of_desk d merged) (of_desk d merged)) e ≡ posts start (of_desk d merged) e ++ new_posts start s merged d e) (sym f)
        (sym (append-nil _)
        ∙ ap (λ z. posts start (of_desk d merged) e ++ z) (sym (no_letters d e s.desk s.stamp (sent_by start (events merged) s.event) f (from_home start (events merged) s.desk s.event i))))

pub before_le : (s t : Stamped) → IsAfter s t → t.stamp ≤ s.stamp
before_le s t h = ⊎_elim (λ w. omega arith) (λ w. omega (arith, w.0)) h

-- stamps of receipts are no later than the newest event
up_to_of : (n d : ℕ) (t : Stamped) → t.stamp ≤ n → (ev : Event) → AllUpTo n (got_of d t.stamp ev)
up_to_of n d t h (Came a c x) = go (a.shard == d)
  where
    go : (b : Bool) → AllUpTo n (cond b (letter t.stamp (sent a c x) ∷ []) [])
    go true = (h, tt)
    go false = tt
up_to_of n d t h _ = tt

pub gots_up_to : (s : Stamped) (merged : List Stamped) (d e : ℕ) → AllBefore s merged → AllUpTo s.stamp (gots (of_desk e merged) d)
gots_up_to s [] d e h = tt
gots_up_to s (t ∷ merged) d e h = go (t.desk == e) (gots_up_to s merged d e h.1)
  where
    go : (b : Bool) → AllUpTo s.stamp (gots (of_desk e merged) d) → AllUpTo s.stamp (gots (cond b (t ∷ of_desk e merged) (of_desk e merged)) d)
    go true ih = AllUpTo-append s.stamp _ _ ih (up_to_of s.stamp d t (before_le s t h.0) t.event)
    go false ih = ih

pub new_up_to : (s : Stamped) (d e : ℕ) → AllUpTo s.stamp (new_gots s d e)
new_up_to s d e = go (s.desk == e)
  where
    go : (b : Bool) → AllUpTo s.stamp (cond b (got d s) [])
    go true = up_to_of s.stamp d s (omega arith) s.event
    go false = tt
