-- Local journals of finitely many desks have a merge: each event is put in its place, the oldest first.
use Rattle.std.proofs.Common.{◌≡◌, ℕ, zero, suc, ◌<◌, ◌≤◌, ◌==◌, ◌&&◌, ◌||◌, Bool, true, false, cond, ltb, ◌⊎◌, inl, inr, ⊎_elim, List, [], ◌∷◌, refl, sym, ap, ◌∙◌, subst, arith}
use Rattle.std.specs.Prelude.{⊤}
use Rattle.std.proofs.lemmas.Bool.{eq-eqb, lt-ltb, both_ways, ne_eqb, ltb-true, cases_lt}
use Rattle.pt_events.specs.declared.event.Stamped.{Stamped}
use Rattle.pt_events.specs.History.{Start}
use Rattle.pt_events.specs.Journal.{Journals, IsLocal, IsMerge, IsRising, AllBefore, IsAfter, clock, of_desk}

abbrev is_after : Stamped → Stamped → Bool
is_after s t = ltb t.stamp s.stamp || ((t.stamp == s.stamp) && ltb t.desk s.desk)

-- what has the same desk is stamped below s
abbrev Apart : Stamped → Stamped → Type 0
Apart s t = s.desk ≡ t.desk → t.stamp < s.stamp

-- one of the two orders holds
order : (s t : Stamped) → Apart s t → IsAfter s t ⊎ (IsAfter t s × (is_after s t ≡ false))
order s t h = ⊎_elim (λ (l : t.stamp < s.stamp). inl (inl l)) above (cases_lt t.stamp s.stamp)
  where
    above : s.stamp ≤ t.stamp → IsAfter s t ⊎ (IsAfter t s × (is_after s t ≡ false))
    above l = ⊎_elim (λ (k : s.stamp < t.stamp). inr (inl k, not_stamp k)) even (cases_lt s.stamp t.stamp)
      where
        off : (m n : ℕ) → n ≤ m → ltb m n ≡ false
        off m n h = go (ltb m n) refl
          where
            go : (b : Bool) → ltb m n ≡ b → ltb m n ≡ false
            go false q = q
            go true q = let k = ltb-true m n q in absurd (omega arith)

        not_stamp : s.stamp < t.stamp → is_after s t ≡ false
        not_stamp k = rw (off t.stamp s.stamp l, ne_eqb t.stamp s.stamp (λ e. absurd (omega arith))) refl

        even : t.stamp ≤ s.stamp → IsAfter s t ⊎ (IsAfter t s × (is_after s t ≡ false))
        even k = ⊎_elim (λ (d : t.desk < s.desk). inl (inr (omega arith, d))) desks (cases_lt t.desk s.desk)
          where
            desks : s.desk ≤ t.desk → IsAfter s t ⊎ (IsAfter t s × (is_after s t ≡ false))
            desks d = ⊎_elim (λ (f : s.desk < t.desk). inr (inr (omega arith, f), rw (off t.stamp s.stamp l, eq-eqb t.stamp s.stamp (omega arith), off t.desk s.desk d) refl))
                (λ (f : t.desk ≤ s.desk). let e : s.desk ≡ t.desk = omega arith in let z = h e in absurd (omega arith)) (cases_lt s.desk t.desk)

after_is : (s t : Stamped) → IsAfter s t → is_after s t ≡ true
after_is s t (inl l) = rw (lt-ltb t.stamp s.stamp l) refl
after_is s t (inr l) = rw (eq-eqb t.stamp s.stamp l.0, lt-ltb t.desk s.desk l.1) (either (ltb t.stamp s.stamp))
  where
    either : (b : Bool) → (b || true) ≡ true
    either true = refl
    either false = refl

after_trans : (s t u : Stamped) → IsAfter s t → IsAfter t u → IsAfter s u
after_trans s t u (inl a) (inl b) = inl (omega arith)
after_trans s t u (inl a) (inr b) = let x = b.0 in inl (omega arith)
after_trans s t u (inr a) (inl b) = let x = a.0 in inl (omega arith)
after_trans s t u (inr a) (inr b) = let x = a.1 in let y = b.1 in inr (b.0 ∙ a.0, omega arith)

before_trans : (s t : Stamped) (ts : List Stamped) → IsAfter s t → AllBefore t ts → AllBefore s ts
before_trans s t [] a h = tt
before_trans s t (u ∷ ts) a h = (after_trans s t u a h.0, before_trans s t ts a h.1)

-- one event ------------------------------------------------------------------------------

-- in its place
abbrev put : Stamped → List Stamped → List Stamped
put s [] = s ∷ []
put s (t ∷ ts) = cond (is_after s t) (s ∷ t ∷ ts) (t ∷ put s ts)

abbrev AllApart : Stamped → List Stamped → Type 0
AllApart s [] = ⊤
AllApart s (t ∷ ts) = Apart s t × AllApart s ts

put_before : (s t : Stamped) (ts : List Stamped) → IsAfter t s → AllBefore t ts → AllBefore t (put s ts)
put_before s t [] a h = (a, tt)
put_before s t (u ∷ ts) a h = go (is_after s u) (put_before s t ts a h.1)
  where
    go : (b : Bool) → AllBefore t (put s ts) → AllBefore t (cond b (s ∷ u ∷ ts) (u ∷ put s ts))
    go true ih = (a, h)
    go false ih = (h.0, ih)

put_rising : (s : Stamped) (ts : List Stamped) → AllApart s ts → IsRising ts → IsRising (put s ts)
put_rising s [] a r = (tt, tt)
put_rising s (t ∷ ts) a r = ⊎_elim first (later (put_rising s ts a.1 r.1)) (order s t a.0)
  where
    first : IsAfter s t → IsRising (put s (t ∷ ts))
    first k = rw (after_is s t k) (((k, before_trans s t ts k r.0), r))

    later : IsRising (put s ts) → IsAfter t s × (is_after s t ≡ false) → IsRising (put s (t ∷ ts))
    later ih k = rw k.1 ((put_before s t ts k.0 r.0, ih))

put_other : (s : Stamped) (e : ℕ) → (s.desk == e) ≡ false → (ts : List Stamped) → of_desk e (put s ts) ≡ of_desk e ts
put_other s e h [] = rw h refl
put_other s e h (t ∷ ts) = go (is_after s t) (put_other s e h ts)
  where
    go : (b : Bool) → of_desk e (put s ts) ≡ of_desk e ts → of_desk e (cond b (s ∷ t ∷ ts) (t ∷ put s ts)) ≡ of_desk e (t ∷ ts)
    go true ih = rw h refl
    go false ih = ap (λ z. cond (t.desk == e) (t ∷ z) z) ih

put_own : (s : Stamped) (ts : List Stamped) → AllApart s ts → of_desk s.desk (put s ts) ≡ s ∷ of_desk s.desk ts
put_own s [] a = rw (eq-eqb s.desk s.desk refl) refl
put_own s (t ∷ ts) a = ⊎_elim first (later (put_own s ts a.1)) (order s t a.0)
  where
    first : IsAfter s t → of_desk s.desk (put s (t ∷ ts)) ≡ s ∷ of_desk s.desk (t ∷ ts)
    first k = rw (after_is s t k, eq-eqb s.desk s.desk refl) refl

    later : of_desk s.desk (put s ts) ≡ s ∷ of_desk s.desk ts → IsAfter t s × (is_after s t ≡ false) → of_desk s.desk (put s (t ∷ ts)) ≡ s ∷ of_desk s.desk (t ∷ ts)
    later ih k = rw (k.1, other) ih
      where
        other : (t.desk == s.desk) ≡ false
        other = ne_eqb t.desk s.desk (λ e. both_ways (is_after s t) k.1 (after_is s t (inl (a.0 (sym e)))))

-- one journal ------------------------------------------------------------------------------

abbrev AllUnder : ℕ → List Stamped → Type 0
AllUnder n [] = ⊤
AllUnder n (t ∷ ts) = (t.stamp < n) × AllUnder n ts

under_clock : (start : Start) (low top d n : ℕ) (journal : List Stamped) → IsLocal start low top d journal → clock low journal < n → AllUnder n journal
under_clock start low top d n [] h l = tt
under_clock start low top d n (s ∷ journal) h l = let k = h.0.later in (l, under_clock start low top d n journal h.1 (omega arith))

all_apart : (s : Stamped) (ts : List Stamped) → AllUnder s.stamp (of_desk s.desk ts) → AllApart s ts
all_apart s [] h = tt
all_apart s (t ∷ ts) h = go (t.desk == s.desk) refl h (all_apart s ts)
  where
    go : (b : Bool) → (t.desk == s.desk) ≡ b → AllUnder s.stamp (of_desk s.desk (t ∷ ts)) → (AllUnder s.stamp (of_desk s.desk ts) → AllApart s ts) → AllApart s (t ∷ ts)
    go true q h ih = let k : AllUnder s.stamp (t ∷ of_desk s.desk ts) = rw q at h in (λ e. k.0, ih k.1)
    go false q h ih = let k : AllUnder s.stamp (of_desk s.desk ts) = rw q at h in (λ e. absurd (both_ways (t.desk == s.desk) q (eq-eqb t.desk s.desk (sym e))), ih k)

abbrev gathered : List Stamped → List Stamped → List Stamped
gathered [] ts = ts
gathered (s ∷ journal) ts = put s (gathered journal ts)

record IsGathered (d : ℕ) (journal ts all : List Stamped) : Type 0 where
  rising : IsRising all
  own : of_desk d all ≡ journal
  others : (e : ℕ) → (d == e) ≡ false → of_desk e all ≡ of_desk e ts

gather : (start : Start) (low top d : ℕ) (journal ts : List Stamped) → IsLocal start low top d journal → IsRising ts → of_desk d ts ≡ [] → IsGathered d journal ts (gathered journal ts)
gather start low top d [] ts h r none = record { rising = r; own = none; others = λ e q. refl }
gather start low top d (s ∷ journal) ts h r none = go (gather start low top d journal ts h.1 r none)
  where
    go : IsGathered d journal ts (gathered journal ts) → IsGathered d (s ∷ journal) ts (put s (gathered journal ts))
    go before = record {
      rising = put_rising s (gathered journal ts) parts before.rising;
      own = subst (λ k. of_desk k (put s (gathered journal ts)) ≡ s ∷ of_desk k (gathered journal ts)) h.0.here (put_own s (gathered journal ts) parts) ∙ ap (λ z. s ∷ z) before.own;
      others = λ e q. put_other s e (ap (λ k. k == e) h.0.here ∙ q) (gathered journal ts) ∙ before.others e q;
    }
      where
        parts : AllApart s (gathered journal ts)
        parts =
            all_apart s (gathered journal ts)
            (subst (λ z. AllUnder s.stamp z) (sym (ap (λ k. of_desk k (gathered journal ts)) h.0.here ∙ before.own)) (under_clock start low top d s.stamp journal h.1 h.0.later))

-- all journals -----------------------------------------------------------------------------

abbrev merge_of : Journals → ℕ → List Stamped
merge_of journal zero = []
merge_of journal (suc n) = gathered (journal n) (merge_of journal n)

record IsMergeOf (journal : Journals) (n : ℕ) (all : List Stamped) : Type 0 where
  rising : IsRising all
  within : (d : ℕ) → d < n → of_desk d all ≡ journal d
  beyond : (d : ℕ) → n ≤ d → of_desk d all ≡ []

module _ (start : Start) (low top : ℕ) (journal : Journals) (local : (d : ℕ) → IsLocal start low top d (journal d)) where
  merges : (n : ℕ) → IsMergeOf journal n (merge_of journal n)
  merges zero = record { rising = tt; within = λ d h. absurd (omega arith); beyond = λ d h. refl }
  merges (suc n) = go (merges n)
    where
      go : IsMergeOf journal n (merge_of journal n) → IsMergeOf journal (suc n) (merge_of journal (suc n))
      go m = record {
        rising = one.rising;
        within = λ d h. ⊎_elim (λ (k : d < n). one.others d (ne_eqb n d (λ e. absurd (omega arith))) ∙ m.within d k)
            (λ (k : n ≤ d). let e : n ≡ d = omega arith in subst (λ x. of_desk x (merge_of journal (suc n)) ≡ journal x) e one.own) (cases_lt d n);
        beyond = λ d h. one.others d (ne_eqb n d (λ e. absurd (omega arith))) ∙ m.beyond d (omega arith);
      }
        where
          one : IsGathered n (journal n) (merge_of journal n) (gathered (journal n) (merge_of journal n))
          one = gather start low top n (journal n) (merge_of journal n) (local n) m.rising (m.beyond n (omega arith))

  pub merge_is_there : (n : ℕ) → ((d : ℕ) → n ≤ d → journal d ≡ []) → (merged : List Stamped) × IsMerge journal merged
  merge_is_there n none = (merge_of journal n, (m.rising, λ d. ⊎_elim (m.within d) (λ (k : n ≤ d). m.beyond d k ∙ sym (none d k)) (cases_lt d n)))
    where
      m : IsMergeOf journal n (merge_of journal n)
      m = merges n
